-- `look_up` meets its contract: the record at the place has the number, or no record has.
use Rattle.std.proofs.Common.{arith, sym, ◌∙◌}
use Rattle.names.proofs.Table.{place_met, place-missed}
use Rattle.names.proofs.lookup.Names.look_up.Goals.{else-i-self-via-then-i-self+else-number_at-number, else-i-self-via-else-i-self}
use Rattle.names.proofs.lookup.Names.look_up.Goals as goal

pub returns-then-number_at-number : goal.returns-then-number_at-number
returns-then-number_at-number c =
    let s = c.self.inside in
    rw (← c.self.view_is, c.meaning_at.ensures)
    (sym (place_met s.count s.area.now c.args.number c.place-i.result c.place-i.ensures.0 (omega arith) (sym c.number_at.ensures ∙ c.if-number_at-number.true)))

pub returns-else-i-self : goal.returns-else-i-self
returns-else-i-self c =
    let s = c.self.inside in
    rw (← c.self.view_is)
    (sym (place-missed s.count s.area.now c.args.number c.place-i.result c.self.invariant.1 c.place-i.ensures.0
    (λ h e. elim c.else-i-self.branch [
      | else-i-self-via-then-i-self+else-number_at-number w ↦ w.if-number_at-number.false (w.number_at.ensures ∙ e)
      | else-i-self-via-else-i-self w ↦ absurd (omega (arith, w.if-i-self.false))
    ])))
