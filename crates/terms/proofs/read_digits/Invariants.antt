-- What is read from here on, behind the value so far, is what is read from the start.
use Rattle.std.proofs.Common.{◌≡◌, ◌-◌, ◌≤◌}
use Rattle.terms.specs.Terms.{digits_from}
use Rattle.terms.proofs.read_digits.Given as goal

abbrev pub invariant-loop : goal.invariant-loop
invariant-loop l = (digits_from (l.most - l.counter) l.base l.s l.digits.next l.digits.value ≡ digits_from l.most l.base l.s l.at 0) × (l.digits.value ≤ 65535)
