use Rattle.std.proofs.Common.{[], ◌∷◌, string_bytes}
use Rattle.asm.specs.Forms.{form_of}
use Rattle.asm.specs.Written.{between_spaces}
use Rattle.asm.proofs.Spaced.{append_two, on_ok, where_ok}
use Rattle.asm.proofs.LineWhole.{text_again}
use Rattle.asm.proofs.line_text.write_line.Goals as goal

pub returns-clause-reads_back : goal.returns-clause-reads_back
returns-clause-reads_back c = on_ok c.push_str.result
    (λ e items. text_again (string_bytes c.args.text.now) (string_bytes c.push_str.new.self)
    c.args.line c.args.name.now items c.in_ok-write_words.ensures.written c.prove_ranges.ensures
    c.requires
    (append_two (string_bytes c.args.text.now) (string_bytes c.write_words.new.text)
    (string_bytes c.push_str.new.self) (between_spaces (form_of c.args.line c.args.name.now))
    (10 ∷ []) c.in_ok-write_words.ensures.bytes e))
    (where_ok c.push_str.result _ _ _ c.push_str.ensures.bytes)
