-- Each way that an assembly ends, as the answer and the lent bytes that the code has then.
use Prim.Native.Nat.{ℕ, ◌≤◌, ◌<◌}
use mathlib.Core.List.{List}
use mathlib.Core.Bool.{true}
use mathlib.Core.Path.{◌≡◌, refl, sym, ap, ◌∙◌}
use native.Mathlib.Omega.{arith}
use lib.ListN.{length, drop}
use lib.Seq.{sets}
use Rattle.names.specs.declared.Name.{Name}
use Rattle.names.specs.Names.{find, ascending}
use Rattle.names.specs.Table.{zeroed}
use Rattle.names.proofs.Table.{zeroed_rest}
use Rattle.book.specs.Writing.{book_bytes}
use Rattle.cards.specs.Source.{source_no, cards_of}
use Rattle.passes.specs.declared.Assembled.{Assembled}
use Rattle.passes.specs.declared.Refused.{Refused}
use Rattle.std.specs.Prelude.{Result, Ok}
use Rattle.passes.specs.One.{State, fresh, pass_one}
use Rattle.passes.specs.One.Passed.{through, stopped}
use Rattle.passes.specs.Two.{Checked, outset, check_two, book_from}
use Rattle.passes.specs.Two.Checked.{clean, bad}
use Rattle.passes.specs.Assembly.{Outcome, after_two, assembled, work_size, refusal, written, outcome_of, assembling}
use Rattle.passes.specs.Sound.{sound}
use Rattle.passes.proofs.Fine.{pass-sound}
use Rattle.passes.proofs.Names.{pass-ascending, pass-few}
use Rattle.passes.proofs.Assembly.{stopped-one, through-one, too_long, fits, same_answer, same_out, work-given, no_source, no_work, through_call}

-- 30, of a book of n bytes
pub past_output : (names : ℕ) (bytes work out : List ℕ) (n : ℕ) → n ≡ length bytes → length out < n
    → (refusal 30 0 ≡ (written names bytes work out).answer) × (out ≡ (written names bytes work out).out)
past_output names bytes work out n e h =
    let w = too_long names bytes work out (rw e at h) in
    (sym (ap (λ (o : Outcome). o.answer) w), sym (ap (λ (o : Outcome). o.out) w))

pub book-written : (names : ℕ) (bytes work out : List ℕ) (n : ℕ) (o : List ℕ) → n ≡ length bytes → n ≤ length out → o ≡ sets out 0 bytes
    → (◌≡◌ {A = Result Assembled Refused} (Ok (record { length = n; names = names })) (written names bytes work out).answer) × (o ≡ (written names bytes work out).out)
book-written names bytes work out n o e h s =
    let w = fits names bytes work out (rw e at h) in
    (rw e (sym (ap (λ (x : Outcome). x.answer) w)), s ∙ sym (ap (λ (x : Outcome). x.out) w))

-- pass two, which leaves the output as it was while it judges
pub refused-two : (ss : List (List ℕ)) (names : List Name) (x : Checked) (number card : ℕ) (work out left : List ℕ) → bad number card ≡ x → left ≡ out
    → (refusal number card ≡ (outcome_of (after_two ss names x) work out).answer) × (left ≡ (outcome_of (after_two ss names x) work out).out)
refused-two ss names x number card work out left e same = rw (sym e) (refl, same)

pub clean-two : (ss : List (List ℕ)) (names : List Name) (x : Checked) (work out left : List ℕ) (count : ℕ) (r : Result Assembled Refused) (o : List ℕ) → clean ≡ x → left ≡ out
    → length names ≡ count → r ≡ (written count (book_bytes (book_from (find names) ss)) work left).answer → o ≡ (written count (book_bytes (book_from (find names) ss)) work left).out
    → (r ≡ (outcome_of (after_two ss names x) work out).answer) × (o ≡ (outcome_of (after_two ss names x) work out).out)
clean-two ss names x work out left count r o e same l a b = rw (sym e, l, sym same) (a, b)

pub refused-one : (ss : List (List ℕ)) (number card : ℕ) (work out : List ℕ) → stopped number card ≡ pass_one 1 fresh ss
    → (refusal number card ≡ (outcome_of (assembled ss) work out).answer) × (out ≡ (outcome_of (assembled ss) work out).out)
refused-one ss number card work out e = rw (stopped-one ss number card e) (refl, refl)

pub passed-one : (ss : List (List ℕ)) (st : State) (before work out : List ℕ) (r : Result Assembled Refused) (o : List ℕ) → through st ≡ pass_one 1 fresh ss
    → r ≡ (outcome_of (after_two ss st.names (check_two (find st.names) 1 outset ss)) work out).answer
    → o ≡ (outcome_of (after_two ss st.names (check_two (find st.names) 1 outset ss)) work out).out
    → (r ≡ (outcome_of (assembled ss) before out).answer) × (o ≡ (outcome_of (assembled ss) before out).out)
passed-one ss st before work out r o e a b =
    let is = sym (through-one ss st e) in (
      a ∙ ap (λ x. (outcome_of x work out).answer) is ∙ same_answer (assembled ss) work before out,
      b ∙ ap (λ x. (outcome_of x work out).out) is ∙ same_out (assembled ss) work before out,
    )

-- 1, 2 and 3 leave both as they were
module _ (width : ℕ) (source work out : List ℕ) where
  abbrev called : Outcome
  called = assembling width source work out

  pub refused_source : (number : ℕ) → number ≡ source_no width (length source) → (number ≡ 0 → ⊥)
      → (refusal number 0 ≡ called.answer) × ((work ≡ called.work) × (out ≡ called.out))
  refused_source number e h =
      let w = no_source width source work out (λ z. h (e ∙ z)) in
      (ap (λ n. refusal n 0) e ∙ sym (ap (λ (o : Outcome). o.answer) w), (sym (ap (λ (o : Outcome). o.work) w), sym (ap (λ (o : Outcome). o.out) w)))

  pub refused-work : source_no width (length source) ≡ 0 → length work < work_size → (refusal 3 0 ≡ called.answer) × ((work ≡ called.work) × (out ≡ called.out))
  refused-work e h =
      let w = no_work width source work out e h in
      (sym (ap (λ (o : Outcome). o.answer) w), (sym (ap (λ (o : Outcome). o.work) w), sym (ap (λ (o : Outcome). o.out) w)))

  -- every other answer: that of both passes, with the work area cleared
  pub cleared_call : (r : Result Assembled Refused) (t u o : List ℕ) → source_no width (length source) ≡ 0 → work_size ≤ length work
      → r ≡ (outcome_of (assembled (cards_of width source)) work out).answer → drop work_size t ≡ drop work_size work
      → o ≡ (outcome_of (assembled (cards_of width source)) work out).out → u ≡ zeroed work_size t
      → (r ≡ called.answer) × ((u ≡ called.work) × (o ≡ called.out))
  cleared_call r t u o e h a d b z =
      let w = sym (through_call width source work out e h) in
      let is = assembled (cards_of width source) in (
        a ∙ same_answer is work (zeroed work_size work) out ∙ ap (λ (x : Outcome). x.answer) w,
        (
          z ∙ zeroed_rest work_size t work d ∙ sym (work-given is (zeroed work_size work) out) ∙ ap (λ (x : Outcome). x.work) w,
          b ∙ same_out is work (zeroed work_size work) out ∙ ap (λ (x : Outcome). x.out) w,
        ),
      )

-- what lies in the work area and in the output behind both passes, once the work area is cleared
module _ (width : ℕ) (source work out : List ℕ) (e : source_no width (length source) ≡ 0) (long : work_size ≤ length work) where
  pub cleared : (t : List ℕ) → drop work_size t ≡ drop work_size work → zeroed work_size t ≡ (assembling width source work out).work
  cleared t rest =
      zeroed_rest work_size t work rest ∙ sym (work-given (assembled (cards_of width source)) (zeroed work_size work) out)
      ∙ ap (λ (x : Outcome). x.work) (sym (through_call width source work out e long))

  pub left : (outcome_of (assembled (cards_of width source)) work out).out ≡ (assembling width source work out).out
  left =
      same_out (assembled (cards_of width source)) work (zeroed work_size work) out ∙ ap (λ (x : Outcome). x.out) (sym (through_call width source work out e long))

-- what pass two may count on
pub passed-fits : (ss : List (List ℕ)) (st : State) → through st ≡ pass_one 1 fresh ss → (sound ss ≡ true) × (ascending st.names ≡ true) × (length st.names ≤ 512)
unfolding ascending
passed-fits ss st e = (pass-sound ss 1 fresh st (sym e), pass-ascending ss 1 fresh st (sym e) refl, pass-few ss 1 fresh st (sym e) (omega arith))
