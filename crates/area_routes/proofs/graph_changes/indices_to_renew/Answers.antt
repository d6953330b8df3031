use Rattle.std.proofs.Common.{◌≤◌, ℕ, List, arith}
use Rattle.area_routes.specs.GraphChanges.{IsCovered}
use Rattle.area_routes.proofs.Fronts.{front_all, front_more}
use Rattle.area_routes.proofs.Stay.{covered_more}
use Rattle.routes.specs.Contents.{contents_at}
use Rattle.words.specs.declared.key.Key.{Key}
use Rattle.area_routes.proofs.graph_changes.indices_to_renew.Goals as goal
use Rattle.area_routes.proofs.graph_changes.indices_to_renew.Goals.{then-key-le-NETWORK_LSA+in_ok-note_key+else-not-branch+else-are_many}
use Rattle.area_routes.proofs.graph_changes.indices_to_renew.Goals.{else-key-le-NETWORK_LSA}

pub loop-key-preserved : goal.loop-key-preserved
loop-key-preserved c =
    let old = contents_at c.args.before c.args.at.now.db.now.committed in
    let new = contents_at c.args.at.now.moment c.args.at.now.db.now.present in
    let nodes = c.args.at.now.nodes.now in
    let keys = c.args.keys.now in
    let i = c.loop-key.key-index in
    let key = c.key-item.result in
    let C : List ℕ → Key → Type 0 = λ places k. k.ls_type ≤ 2 → IsCovered old new nodes places k in
    elim c.if-key-le-NETWORK_LSA.branch [
      | then-key-le-NETWORK_LSA+in_ok-note_key+else-not-branch+else-are_many w ↦
          let places = w.note_key.new.places.items in
          rw w.places-is (front_more (C places) keys i key c.loop-key-test.true c.key-item.is
          (λ k among few. covered_more nodes c.loop-key.places.items places
          w.in_ok-note_key.ensures.kept old new k (c.loop-key.invariant k among few))
          (λ few. w.in_ok-note_key.ensures.covered cc))
      | else-key-le-NETWORK_LSA w ↦
          rw w.places-is (front_more (C c.loop-key.places.items) keys i key c.loop-key-test.true
          c.key-item.is c.loop-key.invariant
          (λ few. absurd (omega (arith, few, w.if-key-le-NETWORK_LSA.false))))
    ]

pub returns : goal.returns
returns c =
    let old = contents_at c.args.before c.args.at.now.db.now.committed in
    let new = contents_at c.args.at.now.moment c.args.at.now.db.now.present in
    front_all (λ (k : Key). k.ls_type ≤ 2
    → IsCovered old new c.args.at.now.nodes.now c.loop-key.places.items k) c.args.keys.now
    c.loop-key.key-index (omega (arith, c.loop-key-test.false)) c.loop-key.invariant
