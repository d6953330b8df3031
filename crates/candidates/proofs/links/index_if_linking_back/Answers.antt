use Rattle.std.proofs.Common.{sym, ◌∙◌}
use Rattle.std.proofs.lemmas.Bool.{false≢true}
use Rattle.candidates.proofs.Steps.{neighbor_is}
use Rattle.candidates.proofs.links.index_if_linking_back.Goals as goal

pub returns-then-has_entry_near : goal.returns-then-has_entry_near
returns-then-has_entry_near c =
    let nodes = c.args.area.now.nodes.now in
    let entries = c.args.area.now.entries.now in
    let has = c.has_entry_near.ensures.0 c.if-has_entry_near.true in
    let among = c.requires.ordered.routers (record {
      router = c.args.router;
      kind = c.args.kind;
      id = c.args.id;
      metric = has.0;
      place = has.1.0;
    }) has.1.1 c.requires.of_link in
    neighbor_is nodes entries c.args.router c.args.kind c.args.id c.index_of-place.result
    c.requires.ordered.ascend among has c.index_of-place.ensures.before
    c.index_of-place.ensures.beyond

pub returns-else-has_entry_near : goal.returns-else-has_entry_near
returns-else-has_entry_near c = λ has. false≢true
    (sym c.if-has_entry_near.false ∙ c.has_entry_near.ensures.1 has)
