use Rattle.std.proofs.Common.{◌≡◌, ◌++◌, [], ◌∷◌, ap, ◌∙◌}
use Rattle.adjacency.specs.Contents.{SendsHello}
use Rattle.adjacency.specs.Drafts.{Drafted, adds}
use Rattle.adjacency.proofs.Floods.{drafting-one}
use Rattle.adjacency.proofs.draft.Draft.add_hello.Goals as goal

pub returns : goal.returns
returns c delay =
    let added : ◌≡◌ {A = Drafted} (record {
      hellos = c.push.new.self.items;
      descriptions = c.self.inside.descriptions.items;
      requests = c.self.inside.requests.items;
      updates = c.self.inside.updates.items;
      acknowledgments = c.self.inside.acknowledgments.items;
    }) (adds delay c.args.self.now (SendsHello c.args.hello)) =
    λ i. record {
      hellos = (c.in_ok-push.ensures.items ∙ ap (λ d. d.hellos ++ c.args.hello ∷ []) c.self.view_is)
          i;
      descriptions = (c.self.view_is i).descriptions;
      requests = (c.self.view_is i).requests;
      updates = (c.self.view_is i).updates;
      acknowledgments = (c.self.view_is i).acknowledgments;
    } in
    added ∙ drafting-one delay (SendsHello c.args.hello) c.args.self.now
