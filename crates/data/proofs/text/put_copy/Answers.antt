-- `text::put_copy` meets its contract: two runs stored in a row, by the type.
use Rattle.std.proofs.Common.{◌≡◌, ◌+◌, ◌-◌, sym, ap, ◌∙◌}
use Rattle.std.proofs.Math.ListN.{length-replicate}
use Rattle.values.proofs.Laws.{then}
use Rattle.data.specs.declared.DataType.TheVariants.{Characters, Hexadecimal, Decimal}
use Rattle.data.specs.Sizes.{half_up, needed}
use Rattle.data.specs.Text.{characters_text, hexadecimal_text, decimal_text}
use Rattle.data.proofs.Texts.{codes_length, copy_is}
use Rattle.data.proofs.text.put_copy.Goals as goal

pub returns-in-Characters : goal.returns-in-Characters
unfolding characters_text
returns-in-Characters c =
    let d = c.args.d in
    let n : c.bytes_needed-needed.result ≡ d.count = c.bytes_needed-needed.ensures ∙ ap (λ k. needed k d.count) c.in-Characters.is in
    rw (copy_is c.args.o.now d Characters c.in-Characters.is)
    (then c.args.m.now c.put_codes.new.m c.put_fill.new.m c.args.to (c.args.to + d.count) _ _
    (rw n at c.put_codes.ensures)
    (ap (λ k. c.args.to + k) (sym (codes_length d.count c.args.o.now d.value)))
    (rw n at c.put_fill.ensures))

pub returns-in-Hexadecimal : goal.returns-in-Hexadecimal
unfolding hexadecimal_text
returns-in-Hexadecimal c =
    let d = c.args.d in
    let n : c.bytes_needed-needed.result ≡ half_up d.count = c.bytes_needed-needed.ensures ∙ ap (λ k. needed k d.count) c.in-Hexadecimal.is in
    let rest = d.length - half_up d.count in
    rw (copy_is c.args.o.now d Hexadecimal c.in-Hexadecimal.is)
    (then c.args.m.now c.put_fill-in-Hexadecimal.new.m c.put_hex.new.m c.args.to (c.args.to + rest) _ _
    (rw n at c.put_fill-in-Hexadecimal.ensures)
    (ap (λ k. c.args.to + k) (sym (length-replicate rest 0)))
    (rw n at c.put_hex.ensures))

pub returns-in-Decimal : goal.returns-in-Decimal
unfolding decimal_text
returns-in-Decimal c =
    let d = c.args.d in
    let n : c.bytes_needed-needed.result ≡ d.count = c.bytes_needed-needed.ensures ∙ ap (λ k. needed k d.count) c.in-Decimal.is in
    let rest = d.length - d.count in
    rw (copy_is c.args.o.now d Decimal c.in-Decimal.is)
    (then c.args.m.now c.put_fill-in-Decimal.new.m c.put_codes-in-Decimal.new.m c.args.to (c.args.to + rest) _ _
    (rw n at c.put_fill-in-Decimal.ensures)
    (ap (λ k. c.args.to + k) (sym (length-replicate rest 0xF0)))
    (rw n at c.put_codes-in-Decimal.ensures))
