use Rattle.std.proofs.Common.{sym, ◌∙◌, arith}
use Rattle.std.proofs.lemmas.Bool.{false≢true}
use Rattle.candidates.specs.Graphs.{Adds}
use Rattle.candidates.specs.Links.{IsExitTo, IsOwnTo}
use Rattle.candidates.proofs.Steps.{exit_elsewhere, exits_at_root, exits_fit, on_ok}
use Rattle.candidates.proofs.links.add_exits.Goals as goal

pub returns-then-is_root-clause-adds : goal.returns-then-is_root-clause-adds
returns-then-is_root-clause-adds c =
    let root = c.args.root.now in
    let old = c.args.links.now.items in
    let new = c.add_own.new.links.items in
    on_ok c.add_own.result (Adds (IsOwnTo root c.args.to c.args.cost c.args.address) old new)
    (Adds (IsExitTo root c.args.router c.args.to c.args.cost c.args.address) old new)
    (exits_at_root root c.args.to c.args.cost c.args.address c.args.router old new
    (c.is_root.ensures.0 c.if-is_root.true)) c.add_own.ensures.adds

pub returns-clause-adds : goal.returns-clause-adds
returns-clause-adds c =
    rw c.in_ok-push.ensures.items
    (exit_elsewhere c.args.root.now c.args.to c.args.cost c.args.address c.args.router
    c.args.links.now.items (λ own. false≢true
    (sym c.if-is_root.false ∙ c.is_root.ensures.1 own)))

pub returns-clause-fits : goal.returns-clause-fits
returns-clause-fits c =
    exits_fit c.args.root.now c.args.to c.args.cost c.args.address c.args.router (omega arith)
    c.args.links.now.items c.push.new.self.items (returns-clause-adds c)
