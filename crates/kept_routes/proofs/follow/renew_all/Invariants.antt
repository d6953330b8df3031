use Rattle.std.proofs.Common.{◌≡◌, true, false, take}
use Rattle.candidates.specs.Borders.{Ascend}
use Rattle.routes.specs.Candidates.{AreCandidates}
use Rattle.routes.specs.Contents.{Contents, contents_at}
use Rattle.kept_routes.specs.Placing.{AreAllAmong, AreHalfway}
use Rattle.kept_routes.proofs.Halfway.{HasAnotherOf}
use Rattle.kept_routes.proofs.follow.renew_all.Given as goal

abbrev pub invariant-loop-prefix : goal.invariant-loop-prefix
invariant-loop-prefix l = record {
  ascend : Ascend l.routes;
  halfway : (old : Contents) → AreCandidates old l.root l.fn.routes
      → AreHalfway old (contents_at l.moment l.db.present) l.root (take l.prefix-index l.prefixes)
      l.routes;
  among : l.none_new ≡ true → AreAllAmong l.fn.routes l.routes;
  another : l.none_new ≡ false → (old : Contents) → AreCandidates old l.root l.fn.routes
      → HasAnotherOf (contents_at l.moment l.db.present) l.root (take l.prefix-index l.prefixes)
      l.fn.routes;
}
