-- `records::put_record` meets its contract: three writes one after the other.
use Rattle.std.proofs.Common.{◌+◌, ◌%◌, ◌∷◌, [], ◌++◌, length, refl, sym, ap, ◌∙◌, arith}
use Rattle.std.proofs.lemmas.List.Edits.{sets}
use Rattle.values.specs.Words.{two_bytes}
use Rattle.values.proofs.Laws.{then}
use Rattle.encode.specs.Pieces.{text_of, fields_of}
use Rattle.making.specs.Steps.{text_pieces}
use Rattle.making.proofs.Writing.{fields-are, length-is, text-short, text_half, record_is}
use Rattle.making.proofs.records.put_record.Goals as goal

pub overflow_cast-count : goal.overflow_cast-count
overflow_cast-count c = let a = c.args in let f = c.requires.text_fits in let s = text-short a.t a.o.now f in let h = text_half a.t a.o.now f in omega arith

pub overflow_cast-count-2 : goal.overflow_cast-count-2
overflow_cast-count-2 c = let a = c.args in let f = c.requires.text_fits in let s = text-short a.t a.o.now f in let h = text_half a.t a.o.now f in omega arith

pub put_text_fields-requires : goal.put_text_fields-requires
put_text_fields-requires c = (text-short c.args.t c.args.o.now c.requires.text_fits, omega arith)

pub returns : goal.returns
returns c =
    let a = c.args in let f = c.requires.text_fits in let h = c.put_head in let x = c.put_text_fields in let y = c.put_text_bytes in
    let size = c.text_length-size in let count = c.text_count-count in
    let ps = text_pieces a.t a.o.now in
    let many = ap length (fields-are a.t a.o.now) ∙ sym count.ensures in
    then a.m.now _ _ a.to _ (two_bytes (5 + count.result + size.result) ++ (two_bytes a.card ++ (two_bytes (a.address % 65536) ++ (count.result ∷ [])))) (fields_of ps ++ text_of ps) h.ensures refl
    (then _ _ _ _ _ (fields_of ps) (text_of ps) (x.ensures ∙ ap (sets h.new.m (a.to + 7)) (sym (fields-are a.t a.o.now))) (ap (λ n. a.to + 7 + n) (sym many)) y.ensures)
    ∙ ap (sets a.m.now a.to) (sym (record_is a.card a.address ps size.result count.result (length-is a.t a.o.now f ∙ sym size.ensures) many))
