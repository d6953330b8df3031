use Rattle.std.proofs.Common.{◌≡◌, ◌+◌, ◌++◌, [], ◌∷◌, min, ap, ◌∙◌, arith}
use Rattle.lsa.specs.Text.{text}
use Rattle.lsdb.specs.Copies.{copy_header, lsa_now}
use Rattle.lsdb.specs.Headers.{key_of, lsa_with_age}
use Rattle.adjacency.specs.Contents.{Updates}
use Rattle.adjacency.specs.Drafts.{Drafted, adds, update_of}
use Rattle.adjacency.proofs.Floods.{drafting-one}
use Rattle.adjacency.proofs.draft.Draft.add_update.Goals as goal

pub returns : goal.returns
returns c =
    let aged : c.header-header.result.age ≡ (copy_header c.args.moment c.args.copy.now).age =
    ap (λ h. h.age) c.header-header.ensures in
    let age : c.min-age.result ≡ min 3600
    ((copy_header c.args.moment c.args.copy.now).age + c.args.delay) =
    omega (arith, c.min-age.ensures, c.from.ensures, c.from-2.ensures, aged) in
    let items = c.in_ok-push.ensures.items
    ∙ (λ i. c.self.inside.updates.items ++ record {
      key = (c.key-key.ensures ∙ ap key_of c.header-header.ensures) i;
      text = (c.in_ok-text.ensures ∙ ap (λ a. text (lsa_with_age a c.args.copy.now.lsa)) age) i;
    } ∷ [])
    ∙ ap (λ d. d.updates ++ update_of c.args.delay (lsa_now c.args.moment c.args.copy.now) ∷ [])
    c.self.view_is in
    let added : ◌≡◌ {A = Drafted} (record {
      hellos = c.self.inside.hellos.items;
      descriptions = c.self.inside.descriptions.items;
      requests = c.self.inside.requests.items;
      updates = c.push.new.self.items;
      acknowledgments = c.self.inside.acknowledgments.items;
    }) (adds c.args.delay c.args.self.now (Updates (lsa_now c.args.moment c.args.copy.now))) =
    λ i. record {
      hellos = (c.self.view_is i).hellos;
      descriptions = (c.self.view_is i).descriptions;
      requests = (c.self.view_is i).requests;
      updates = items i;
      acknowledgments = (c.self.view_is i).acknowledgments;
    } in
    added ∙ drafting-one c.args.delay (Updates (lsa_now c.args.moment c.args.copy.now))
    c.args.self.now
