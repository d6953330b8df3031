use Rattle.std.proofs.Common.{◌≡◌, false, true, sym, ◌∙◌}
use Rattle.lsdb.proofs.AllBodies.{begins, ends, few, stops}
use Rattle.lsdb.proofs.keyed_bodies.bodies_of.Goals as goal
use Rattle.lsdb.proofs.keyed_bodies.bodies_of.Goals.{in-None, in-Some+then-not-is_up_to}

pub loop-key-init : goal.loop-key-init
loop-key-init c =
    begins c.args.last_type c.args.moment c.args.copies.now.present _ _
    (c.into_iter-key-iterator.ensures.into_iter_gives ∙ c.entries-key-items.ensures)
    c.new-bodies.ensures.items

pub returns-clause-bodies : goal.returns-clause-bodies
returns-clause-bodies c =
    let ahead = c.loop-key.key-iterator in
    let done = c.loop-key.bodies.items in
    let copies = c.args.copies.now.present in
    elim c.match-next.branch [
      | in-None w ↦ ends c.args.last_type c.args.moment copies ahead done w.in-None.ensures.steps.0
          c.loop-key.invariant
      | in-Some+then-not-is_up_to w ↦
          stops c.args.last_type c.args.moment copies ahead c.next.new.self done w.in-Some.key
          w.in-Some.copy.now w.in-Some.ensures.steps c.loop-key.invariant
          (λ up. let no : false ≡ true = sym w.if-not-is_up_to.true ∙ w.is_up_to.ensures.1 up in
          absurd (cc))
    ]

pub returns-clause-few : goal.returns-clause-few
returns-clause-few c = few c.args.last_type c.args.moment c.args.copies.now.present
    c.loop-key.key-iterator c.loop-key.bodies.items c.loop-key.invariant
