use Rattle.std.proofs.Common.{[], ◌∷◌, string_bytes}
use Rattle.asm.specs.Forms.{Name}
use Rattle.asm.proofs.Spaced.{added, append_two, on_ok, where_ok, written_name}
use Rattle.asm.proofs.line_text.next_name.Goals as goal

pub returns : goal.returns
returns c = added c.push_str-2.result (string_bytes c.args.text.now)
    (string_bytes c.push_str-2.new.self) (Name c.args.name.now)
    (written_name c.args.name.now c.requires)
    (on_ok c.push_str-2.result (append_two (string_bytes c.args.text.now)
    (string_bytes c.push_str.new.self) (string_bytes c.push_str-2.new.self) (32 ∷ [])
    c.args.name.now c.in_ok-push_str.ensures.bytes)
    (where_ok c.push_str-2.result _ _ _ c.push_str-2.ensures.bytes))
