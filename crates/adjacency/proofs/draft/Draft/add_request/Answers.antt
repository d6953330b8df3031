use Rattle.std.proofs.Common.{◌≡◌, ◌++◌, [], ◌∷◌, ap, ◌∙◌}
use Rattle.adjacency.specs.Contents.{Requests}
use Rattle.adjacency.specs.Drafts.{Drafted, adds}
use Rattle.adjacency.proofs.Floods.{drafting-one}
use Rattle.adjacency.proofs.draft.Draft.add_request.Goals as goal

pub returns : goal.returns
returns c delay =
    let added : ◌≡◌ {A = Drafted} (record {
      hellos = c.self.inside.hellos.items;
      descriptions = c.self.inside.descriptions.items;
      requests = c.push.new.self.items;
      updates = c.self.inside.updates.items;
      acknowledgments = c.self.inside.acknowledgments.items;
    }) (adds delay c.args.self.now (Requests c.args.keys)) =
    λ i. record {
      hellos = (c.self.view_is i).hellos;
      descriptions = (c.self.view_is i).descriptions;
      requests = (c.in_ok-push.ensures.items
          ∙ ap (λ d. d.requests ++ c.args.keys ∷ []) c.self.view_is) i;
      updates = (c.self.view_is i).updates;
      acknowledgments = (c.self.view_is i).acknowledgments;
    } in
    added ∙ drafting-one delay (Requests c.args.keys) c.args.self.now
