use Rattle.std.proofs.Common.{◌≡◌, ◌-◌, [], ◌∷◌, List, length, sym, ap, subst, ◌∙◌, arith}
use mathlib.Core.Bool.{false≢true}
use Rattle.std.specs.FinMap as finite
use Rattle.words.specs.declared.key.Key.{Key}
use Rattle.lsa.specs.Headers.{key_of}
use Rattle.lsdb.specs.Headers.{Header}
use Rattle.adjacency.specs.Adjacencies.{mismatch_step}
use Rattle.adjacency.specs.Contents.{Acknowledges, no_sends}
use Rattle.adjacency.specs.Neighbors.{Neighbor}
use Rattle.adjacency.specs.Retransmissions.{remove_retransmission}
use Rattle.received.specs.Links.{Area, Link}
use Rattle.received.specs.AreaStates.{one_neighbor, only_at, sends_at, stepped_links}
use Rattle.received.specs.AreaStates.{stepping_sends}
use Rattle.received.specs.Updates.{acknowledge_directly, after_case, send_copy}
use Rattle.area.specs.Cases.{case_of, is_to_be_installed}
use Rattle.area.specs.Kept.{KeptLink, RouterArea}
use Rattle.area.specs.Links.{area_of, with_no_sends}
use Rattle.area.proofs.Doing.{area_rests, area_same}
use Rattle.area.proofs.Lent.{lent_do, lent_number}
use Rattle.area.proofs.Marking.{mismatch_alone, on_links_alone, removal_alone}
use Rattle.area.proofs.area.Area.carry_out_case.Goals as goal

pub returns-in-NothingToFlush : goal.returns-in-NothingToFlush
returns-in-NothingToFlush c =
    let m = c.args.moment in
    let n = c.args.interface in
    let lsa = c.args.lsa.now in
    let old = c.args.self.now in
    let cs = Acknowledges c.header-header.result ∷ [] in
    area_same (on_links_alone (λ (ls : List Link). ls) (λ (ls : List Link). sends_at n cs))
    (λ (a : Area). after_case (case_of c.args.case) m n lsa (with_no_sends a)) old _
    c.draft_direct_acknowledgment.result
    (ap (λ (h : Header). acknowledge_directly m n h (with_no_sends old.present))
    c.header-header.ensures
    ∙ ap (λ k. after_case (case_of k) m n lsa (with_no_sends old.present))
    (sym c.in-NothingToFlush.is))
    (lent_do (λ (ls : List Link). ls) (λ (ls : List Link). sends_at n cs)
    c.self.inside.links.items c.deref_mut.result.now c.draft_direct_acknowledgment.new.links
    c.self.inside.links.len c.self.inside.database old c.draft_direct_acknowledgment.result
    c.deref_mut.ensures.value c.deref_mut.ensures.len c.self.view_is
    c.draft_direct_acknowledgment.ensures)

pub returns-in-TooSoon : goal.returns-in-TooSoon
returns-in-TooSoon c =
    let m = c.args.moment in
    let n = c.args.interface in
    let lsa = c.args.lsa.now in
    let old = c.args.self.now in
    area_rests (λ (a : Area). after_case (case_of c.args.case) m n lsa (with_no_sends a)) old _
    (ap (λ k. after_case (case_of k) m n lsa (with_no_sends old.present)) (sym c.in-TooSoon.is))

pub returns-in-Newer : goal.returns-in-Newer
returns-in-Newer c = absurd (false≢true
    (sym c.requires.other ∙ ap (λ k. is_to_be_installed (case_of k)) c.in-Newer.is))

pub returns-in-BadRequest : goal.returns-in-BadRequest
returns-in-BadRequest c =
    let m = c.args.moment in
    let n = c.args.interface in
    let lsa = c.args.lsa.now in
    let old = c.args.self.now in
    let it = c.self-in-BadRequest in
    let lend = c.deref_mut-in-BadRequest in
    let lent = lend.result.now in
    let d = it.inside.database.present in
    let F = only_at n (mismatch_step m) in
    let count : length lent ≡ length old.present.links =
    lent_number it.inside.links.items lent old.present.links lend.ensures.value
    (ap (λ (v : RouterArea). v.present.links) it.view_is) in
    let there : area_of lent d ≡ old.present =
    ap (λ (ls : List KeptLink). area_of ls d) lend.ensures.value
    ∙ ap (λ (v : RouterArea). v.present) it.view_is in
    area_same (on_links_alone (stepped_links F) (stepping_sends F))
    (λ (a : Area). after_case (case_of c.args.case) m n lsa (with_no_sends a)) old _
    c.bad_request.result
    (subst (λ (a : Area). on_links_alone (stepped_links F) (stepping_sends F) a
    ≡ one_neighbor m n (mismatch_step m) (with_no_sends a)) there
    (mismatch_alone lent (n - 1) n (omega (arith, c.requires.first, c.requires.last, count))
    (omega (arith, c.requires.first)) m d)
    ∙ ap (λ k. after_case (case_of k) m n lsa (with_no_sends old.present)) (sym c.in-BadRequest.is))
    (lent_do (stepped_links F) (stepping_sends F) it.inside.links.items lent c.bad_request.new.links
    it.inside.links.len it.inside.database old c.bad_request.result lend.ensures.value
    lend.ensures.len it.view_is c.bad_request.ensures)

pub returns-in-ImpliedAcknowledgment : goal.returns-in-ImpliedAcknowledgment
returns-in-ImpliedAcknowledgment c =
    let m = c.args.moment in
    let n = c.args.interface in
    let lsa = c.args.lsa.now in
    let old = c.args.self.now in
    let it = c.self-in-ImpliedAcknowledgment in
    let lend = c.deref_mut-in-ImpliedAcknowledgment in
    let lent = lend.result.now in
    let d = it.inside.database.present in
    let key = key_of c.header-header.result in
    let F = only_at n (λ (x : Neighbor). no_sends (remove_retransmission key x)) in
    let count : length lent ≡ length old.present.links =
    lent_number it.inside.links.items lent old.present.links lend.ensures.value
    (ap (λ (v : RouterArea). v.present.links) it.view_is) in
    let there : area_of lent d ≡ old.present =
    ap (λ (ls : List KeptLink). area_of ls d) lend.ensures.value
    ∙ ap (λ (v : RouterArea). v.present) it.view_is in
    area_same (on_links_alone (stepped_links F) (λ (ls : List Link). []))
    (λ (a : Area). after_case (case_of c.args.case) m n lsa (with_no_sends a)) old _
    c.remove_retransmission.result
    (subst (λ (a : Area). on_links_alone (stepped_links F) (λ (ls : List Link). []) a
    ≡ one_neighbor m n (λ (x : Neighbor). no_sends (remove_retransmission key x)) (with_no_sends a))
    there
    (removal_alone lent (n - 1) n (omega (arith, c.requires.first, c.requires.last, count))
    (omega (arith, c.requires.first)) m d key)
    ∙ ap (λ (h : Header). one_neighbor m n
    (λ (x : Neighbor). no_sends (remove_retransmission (key_of h) x)) (with_no_sends old.present))
    c.header-header.ensures
    ∙ ap (λ k. after_case (case_of k) m n lsa (with_no_sends old.present))
    (sym c.in-ImpliedAcknowledgment.is))
    (lent_do (stepped_links F) (λ (ls : List Link). []) it.inside.links.items lent
    c.remove_retransmission.new.links it.inside.links.len it.inside.database old
    c.remove_retransmission.result lend.ensures.value lend.ensures.len it.view_is
    c.remove_retransmission.ensures)

pub returns-in-Duplicate : goal.returns-in-Duplicate
returns-in-Duplicate c =
    let m = c.args.moment in
    let n = c.args.interface in
    let lsa = c.args.lsa.now in
    let old = c.args.self.now in
    let it = c.self-in-Duplicate in
    let lend = c.deref_mut-in-Duplicate in
    let call = c.draft_direct_acknowledgment-in-Duplicate in
    let cs = Acknowledges c.header-header.result ∷ [] in
    area_same (on_links_alone (λ (ls : List Link). ls) (λ (ls : List Link). sends_at n cs))
    (λ (a : Area). after_case (case_of c.args.case) m n lsa (with_no_sends a)) old _ call.result
    (ap (λ (h : Header). acknowledge_directly m n h (with_no_sends old.present))
    c.header-header.ensures
    ∙ ap (λ k. after_case (case_of k) m n lsa (with_no_sends old.present)) (sym c.in-Duplicate.is))
    (lent_do (λ (ls : List Link). ls) (λ (ls : List Link). sends_at n cs) it.inside.links.items
    lend.result.now call.new.links it.inside.links.len it.inside.database old call.result
    lend.ensures.value lend.ensures.len it.view_is call.ensures)

pub returns-in-SequenceWraps : goal.returns-in-SequenceWraps
returns-in-SequenceWraps c =
    let m = c.args.moment in
    let n = c.args.interface in
    let lsa = c.args.lsa.now in
    let old = c.args.self.now in
    area_rests (λ (a : Area). after_case (case_of c.args.case) m n lsa (with_no_sends a)) old _
    (ap (λ k. after_case (case_of k) m n lsa (with_no_sends old.present))
    (sym c.in-SequenceWraps.is))

pub returns-in-SentJustNow : goal.returns-in-SentJustNow
returns-in-SentJustNow c =
    let m = c.args.moment in
    let n = c.args.interface in
    let lsa = c.args.lsa.now in
    let old = c.args.self.now in
    area_rests (λ (a : Area). after_case (case_of c.args.case) m n lsa (with_no_sends a)) old _
    (ap (λ k. after_case (case_of k) m n lsa (with_no_sends old.present)) (sym c.in-SentJustNow.is))

pub returns-in-Older : goal.returns-in-Older
returns-in-Older c =
    let m = c.args.moment in
    let n = c.args.interface in
    let lsa = c.args.lsa.now in
    let old = c.args.self.now in
    area_same (λ (a : Area). send_copy m n (finite.get a.database c.key-key.result)
    (with_no_sends a))
    (λ (a : Area). after_case (case_of c.args.case) m n lsa (with_no_sends a)) old
    c.draft_copy.new.self c.draft_copy.result
    (ap (λ (k : Key). send_copy m n (finite.get old.present.database k) (with_no_sends old.present))
    (c.key-key.ensures ∙ ap key_of c.header-header.ensures)
    ∙ ap (λ k. after_case (case_of k) m n lsa (with_no_sends old.present)) (sym c.in-Older.is))
    c.draft_copy.ensures
