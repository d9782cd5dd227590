-- The bytes that are handed on are those of the first floats in the room. Assumes nothing.
use Rattle.std.proofs.Common.{◌≡◌, ℕ, ◌*◌, ◌/◌, ◌%◌, ◌^◌, ◌<◌, ◌≤◌, min, List, arith, length, take, drop, ap, subst, OnOk, length-take-le, take_at, ◌∙◌, replicate}
use Rattle.std.specs.Float.{nan, binary32}
use Rattle.std.specs.Float.Ieee.{Float, to_bits}
use Rattle.std.proofs.lemmas.List.{get_or-take, length-replicate}
use Rattle.std.specs.Io.KnownBytes.{Appends}
use Rattle.laws.specs.Lists.{tab}
use Rattle.laws.proofs.Lists.{length-tab, tab-same}
use Rattle.little_endian.specs.Bytes.{float_byte, floats_put}
use Rattle.render.proofs.write_outputs.Goals as goal

module _ (written : ℕ) (room : List Float) (h : written ≤ length room) where
  same-byte : (k : ℕ) → k < 4 * written → float_byte (take written room) k ≡ float_byte room k
  same-byte k q = ap (λ (x : Float). to_bits binary32 x / 256 ^ (k % 4) % 256) (get_or-take written room (k / 4) nan (omega arith))

  front : (zeros : List ℕ) {bytes : List ℕ} → written ≤ 1152 → length zeros ≡ 4608
      → bytes ≡ floats_put (min (length (take written room)) (length zeros / 4)) (take written room) zeros → take (4 * written) bytes ≡ tab (4 * written) (float_byte room)
  front zeros few long e =
      let count : min (length (take written room)) (length zeros / 4) ≡ written = omega (arith, length-take-le written room h) in
      ap (take (4 * written)) (rw count at e)
      ∙ take_at (tab (4 * written) (float_byte (take written room))) (drop (4 * written) zeros) (4 * written) (length-tab (4 * written) (float_byte (take written room)))
      ∙ tab-same (4 * written) (float_byte (take written room)) (float_byte room) same-byte

pub returns : goal.returns
returns g c =
    subst (λ (bytes : List ℕ). OnOk c.write_all.result (Appends (g.W.Write.contents c.args.outputs.now) (g.W.Write.contents c.write_all.new.self) bytes))
    (front c.args.written c.args.room.now c.requires.1 (replicate 4608 0) c.requires.0 (length-replicate {A = ℕ} 4608 0) c.floats_to.ensures) c.write_all.ensures.bytes
