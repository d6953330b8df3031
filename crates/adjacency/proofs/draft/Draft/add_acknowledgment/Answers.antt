use Rattle.std.proofs.Common.{◌≡◌, ◌++◌, [], ◌∷◌, ap, ◌∙◌}
use Rattle.adjacency.specs.Contents.{Acknowledges}
use Rattle.adjacency.specs.Drafts.{Drafted, adds}
use Rattle.adjacency.proofs.Floods.{drafting-one}
use Rattle.adjacency.proofs.draft.Draft.add_acknowledgment.Goals as goal

pub returns : goal.returns
returns c delay =
    let added : ◌≡◌ {A = Drafted} (record {
      hellos = c.self.inside.hellos.items;
      descriptions = c.self.inside.descriptions.items;
      requests = c.self.inside.requests.items;
      updates = c.self.inside.updates.items;
      acknowledgments = c.push.new.self.items;
    }) (adds delay c.args.self.now (Acknowledges c.args.header)) =
    λ i. record {
      hellos = (c.self.view_is i).hellos;
      descriptions = (c.self.view_is i).descriptions;
      requests = (c.self.view_is i).requests;
      updates = (c.self.view_is i).updates;
      acknowledgments = (c.in_ok-push.ensures.items
          ∙ ap (λ d. d.acknowledgments ++ c.args.header ∷ []) c.self.view_is) i;
    } in
    added ∙ drafting-one delay (Acknowledges c.args.header) c.args.self.now
