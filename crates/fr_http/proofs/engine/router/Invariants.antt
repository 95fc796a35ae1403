use Rattle.std.proofs.Common.{◌≡◌, [], map, take}
use Rattle.std.specs.List.{fold}
use Rattle.fr_http.specs.Routes.{with_route}
use Rattle.fr_http.proofs.RouteLaws.{entry_of}
use Rattle.fr_http.proofs.engine.router.Given as goal

-- the patterns so far are in it
abbrev pub invariant-loop-pattern : goal.invariant-loop-pattern
invariant-loop-pattern l = l.router ≡ fold with_route [] (map entry_of (take l.pattern-index l.pattern-items))
