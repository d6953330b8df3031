use Rattle.std.proofs.Common.{◌≡◌, ◌++◌, drop, string_bytes}
use Rattle.console.specs.Answers.{route_lines}
use Rattle.console.proofs.answers.push_routes.Given as goal

-- the text so far, and the lines of the remaining routes
abbrev pub invariant-loop-route : goal.invariant-loop-route
invariant-loop-route l = string_bytes l.text ++ route_lines (drop l.route-index l.routes)
    ≡ string_bytes l.initial.text ++ route_lines l.routes
