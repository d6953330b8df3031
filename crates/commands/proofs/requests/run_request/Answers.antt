use Rattle.std.proofs.Common.{◌∙◌, ap, sym, refl, codes, option_map}
use Rattle.std.specs.Borrow.{Bor}
use Rattle.clap.specs.Matches.{found_of}
use Rattle.clap.specs.Walk.{Text, rows_of}
use Rattle.commands.proofs.Made.{context_is, has_word, packet_is}
use Rattle.commands.proofs.requests.run_request.Goals as goal

pub returns-in-Ok-clause-ok : goal.returns-in-Ok-clause-ok
returns-in-Ok-clause-ok c =
    let rows = rows_of (found_of c.args.matches.now) in
    let given = c.in-Some-Some-Some in
    let object = ap (option_map (λ (w : Bor Text). w.now)) (sym given.is-0)
    ∙ c.word_of-object.ensures in
    let context = ap (option_map (λ (w : Bor Text). w.now)) (sym given.is-1)
    ∙ c.word_of-context.ensures in
    let packet = ap (option_map (λ (w : Bor Text). w.now)) (sym given.is-2)
    ∙ c.word_of-packet.ensures in
    let zeros = context_is given.context.now c.context_of.result c.in-Some.context c.in-Some.is
    c.context_of.ensures.dash c.context_of.ensures.hex in
    let bytes = packet_is given.packet.now c.in-Ok.packet.items c.in-Ok.ensures.dash
    c.in-Ok.ensures.hex in (
      refl,
      (
        has_word rows (codes "OBJECT") given.object object,
        (given.context.now, has_word rows (codes "CONTEXT") given.context context, zeros),
        (given.packet.now, has_word rows (codes "PACKET") given.packet packet, bytes),
      ),
    )
