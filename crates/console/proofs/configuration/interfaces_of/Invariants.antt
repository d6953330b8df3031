use Rattle.std.proofs.Common.{◌≡◌, ◌≤◌, length, take}
use Rattle.words.specs.Constants.{max_interfaces}
use Rattle.console.specs.Configurations.{AreApart, SayInterfaces}
use Rattle.console.specs.Views.{views}
use Rattle.console.proofs.configuration.interfaces_of.Given as goal

-- the lines so far spell the interfaces so far
abbrev pub invariant-loop-line : goal.invariant-loop-line
invariant-loop-line l = record {
  said : SayInterfaces 1 (take l.line-index (views l.lines)) l.interfaces.items;
  apart : AreApart l.interfaces.items;
  many : length l.interfaces.items ≡ l.line-index;
  few : length l.interfaces.items ≤ max_interfaces;
}
