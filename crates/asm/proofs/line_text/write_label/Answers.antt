use Rattle.std.proofs.Common.{[], ◌∷◌, string_bytes}
use Rattle.asm.specs.Forms.{Definition}
use Rattle.asm.proofs.Spaced.{started, append_two, on_ok, where_ok, written_definition}
use Rattle.asm.proofs.line_text.write_label.Goals as goal

pub returns : goal.returns
returns c = started c.push_str-2.result (string_bytes c.args.text.now)
    (string_bytes c.push_str-2.new.self) (Definition c.args.name.now)
    (written_definition c.args.name.now c.requires)
    (on_ok c.push_str-2.result (append_two (string_bytes c.args.text.now)
    (string_bytes c.push_str.new.self) (string_bytes c.push_str-2.new.self) c.args.name.now
    (58 ∷ []) c.in_ok-push_str.ensures.bytes)
    (where_ok c.push_str-2.result _ _ _ c.push_str-2.ensures.bytes))
