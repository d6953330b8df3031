use Rattle.std.proofs.Common.{◌≡◌, ◌++◌, [], ◌∷◌, ap, ◌∙◌}
use Rattle.adjacency.specs.Contents.{Describes}
use Rattle.adjacency.specs.Drafts.{Drafted, adds}
use Rattle.adjacency.proofs.Floods.{drafting-one}
use Rattle.adjacency.proofs.draft.Draft.add_description.Goals as goal

pub returns : goal.returns
returns c delay =
    let added : ◌≡◌ {A = Drafted} (record {
      hellos = c.self.inside.hellos.items;
      descriptions = c.push.new.self.items;
      requests = c.self.inside.requests.items;
      updates = c.self.inside.updates.items;
      acknowledgments = c.self.inside.acknowledgments.items;
    }) (adds delay c.args.self.now (Describes c.args.description)) =
    λ i. record {
      hellos = (c.self.view_is i).hellos;
      descriptions = (c.in_ok-push.ensures.items
          ∙ ap (λ d. d.descriptions ++ c.args.description ∷ []) c.self.view_is) i;
      requests = (c.self.view_is i).requests;
      updates = (c.self.view_is i).updates;
      acknowledgments = (c.self.view_is i).acknowledgments;
    } in
    added ∙ drafting-one delay (Describes c.args.description) c.args.self.now
