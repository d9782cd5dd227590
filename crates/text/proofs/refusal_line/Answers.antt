-- Each text is stored after those before it; they have at most 40 bytes together. Assumes nothing.
use mathlib.Core.Path.{◌≡◌, refl, sym, ap, ◌∙◌}
use mathlib.Core.List.{List, [], ◌∷◌, ◌++◌}
use Prim.Native.Nat.{ℕ}
use native.Mathlib.Omega.{arith}
use lib.ListN.{length, drop}
use Rattle.text.specs.Digits.{decimal}
use Rattle.text.specs.Line.{word_record, word_refused, refusal_line}
use Rattle.text.proofs.Texts.{written, more_written}
use Rattle.text.proofs.Digits.{decimal-most, decimal-small}
use Rattle.text.proofs.refusal_line.Goals as goal

-- the whole text: its length is the answer
line_written : (l : List ℕ) (n k : ℕ) {r : ℕ} {out : List ℕ}
    → (r ≡ length (word_record ++ decimal n ++ word_refused ++ decimal k ++ 10 ∷ [])) × (out ≡ written (word_record ++ decimal n ++ word_refused ++ decimal k ++ 10 ∷ []) l)
    → (r ≡ length (refusal_line n k)) × (out ≡ refusal_line n k ++ drop r l)
unfolding refusal_line
line_written l n k w = (w.0, w.1 ∙ ap (λ (m : ℕ). refusal_line n k ++ drop m l) (sym w.0))

pub put_decimal-word_at-requires : goal.put_decimal-word_at-requires
put_decimal-word_at-requires c = omega (arith, decimal-most c.args.n)

pub put_bytes-refusal_at-requires : goal.put_bytes-refusal_at-requires
put_bytes-refusal_at-requires c = omega (arith, decimal-most c.args.n)

pub put_decimal-end_at-requires : goal.put_decimal-end_at-requires
put_decimal-end_at-requires c = let few = decimal-small c.from.result (omega arith) in omega (arith, decimal-most c.args.n)

pub put_bytes-requires : goal.put_bytes-requires
put_bytes-requires c = let few = decimal-small c.from.result (omega arith) in omega (arith, decimal-most c.args.n)

pub returns : goal.returns
returns c =
    let l = c.args.to.now in
    let n = c.args.n in
    let k = c.args.k in
    let a = c.put_bytes-number_at.ensures in
    let b = c.put_decimal-word_at.ensures in
    let d = c.put_bytes-refusal_at.ensures in
    let e = rw c.from.ensures at c.put_decimal-end_at.ensures in
    let f = c.put_bytes.ensures in
    let one = more_written l [] word_record (refl, refl) (a.place, a.text) in
    let two = more_written l word_record (decimal n) one (b.place, b.text) in
    let three = more_written l (word_record ++ decimal n) word_refused two (d.place, d.text) in
    let four = more_written l (word_record ++ decimal n ++ word_refused) (decimal k) three (e.place, e.text) in
    let all = line_written l n k (more_written l (word_record ++ decimal n ++ word_refused ++ decimal k) (10 ∷ []) four (f.place, f.text)) in
    record { length = all.0; text = all.1 }
