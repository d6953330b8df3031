use Rattle.std.proofs.Common.{List, Some, sym, subst}
use Rattle.lsa.specs.declared.body.LsaBody.{LsaBody}
use Rattle.lsdb.specs.Bodies.{AreBodies}
use Rattle.words.specs.declared.key.Key.{Key}
use Rattle.routes.specs.Contents.{contents_at}
use Rattle.candidates.specs.Entries.{AreEntries}
use Rattle.candidates.specs.declared.entry.AdvertisedLink.{AdvertisedLink}
use Rattle.candidates.proofs.GraphWhole.{is_graph, is_graph_of}
use Rattle.candidates.proofs.vertices.graph_of.Goals as goal

pub entries_of-requires-clause-bodies : goal.entries_of-requires-clause-bodies
entries_of-requires-clause-bodies c =
    let P : List (Key × LsaBody) → Type 0 =
    λ es. AreBodies (Some 2) (contents_at c.args.moment c.args.db.now.present) es in
    subst P (sym c.deref.ensures.value) c.in_ok-bodies.ensures.bodies

pub vertices_of-requires-clause-area : goal.vertices_of-requires-clause-area
vertices_of-requires-clause-area c =
    let contents = contents_at c.args.moment c.args.db.now.present in
    let P : List (Key × LsaBody) → Type 0 = λ es. AreBodies (Some 2) contents es in
    let Q : List AdvertisedLink → Type 0 = λ es. AreEntries contents c.args.nodes.now es in
    record {
      are_bodies = subst P (sym c.deref.ensures.value) c.in_ok-bodies.ensures.bodies;
      are_nodes = c.requires.nodes;
      are_entries = subst Q (sym c.deref-3.ensures.value) c.in_ok-entries.ensures;
    }

pub returns-clause-count : goal.returns-clause-count
returns-clause-count c = c.in_ok-graph.ensures.count

pub returns-clause-stands : goal.returns-clause-stands
returns-clause-stands c =
    is_graph_of (contents_at c.args.moment c.args.db.now.present) c.args.root.now c.args.nodes.now
    c.in_ok-graph.graph.items c.requires.nodes c.in_ok-graph.ensures

pub returns-clause-lawful : goal.returns-clause-lawful
returns-clause-lawful c =
    is_graph (contents_at c.args.moment c.args.db.now.present) c.args.root.now c.args.nodes.now
    c.in_ok-graph.graph.items c.requires.nodes c.in_ok-graph.ensures c.requires.interfaces

pub returns-clause-vertices : goal.returns-clause-vertices
returns-clause-vertices c = c.in_ok-graph.ensures
