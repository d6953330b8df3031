-- What the console prints for an answer: lines, each with a line feed (10) at its end.
use Rattle.std.specs.Prelude.{List, ℕ, [], ◌∷◌, ◌++◌, codes, decimal, string_bytes}
use Rattle.isa.specs.Hooks.{hook_name}
use Rattle.operator.specs.declared.reply.Reply.{Reply}
use Rattle.operator.specs.declared.reply.Reply.TheVariants as reply

abbrev pub reply_text : Reply → List ℕ
reply_text (reply.Attached hook bound) =
    codes "attached " ++ (hook_name hook ++ (codes " bound " ++ (decimal bound ++ 10 ∷ [])))
reply_text (reply.Detached hook) = codes "detached " ++ (hook_name hook ++ 10 ∷ [])
reply_text reply.Originated = codes "originated\n"
reply_text reply.Withheld = codes "withheld\n"
reply_text reply.Withdrawn = codes "withdrawn\n"
reply_text (reply.Refused number) = codes "refused " ++ (decimal number ++ 10 ∷ [])
reply_text reply.Unknown = codes "unknown\n"
reply_text reply.Memory = codes "out of memory\n"
reply_text (reply.Lines lines) = string_bytes lines
