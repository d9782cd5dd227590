-- The block types: the numbers that stand for them, and what the stages make of them. Assumes nothing.
use Rattle.std.specs.Prelude.{cond, ℕ, eqb, ltb, Result, Ok, Err}
use Rattle.refusals.specs.declared.Refusal.{Refusal}
use Rattle.refusals.specs.declared.Refusal.TheVariants.{WrongByte}
use Rattle.side_info.specs.declared.BlockType.{BlockType}
use Rattle.side_info.specs.declared.BlockType.TheVariants.{Long, Short, Mixed, Start, End}

-- "block type (0 Long, 1 Short, 2 Mixed, 3 Start, 4 End)"; a record with a number above 4 is refused before it comes here
abbrev pub block_type_of : ℕ → BlockType
block_type_of n = cond (eqb n 0) Long (cond (eqb n 1) Short (cond (eqb n 2) Mixed (cond (eqb n 3) Start End)))

-- the same of a byte of a record, or refusal 12: "a record's block type byte is above 4"
abbrev pub block_type_read : ℕ → Result BlockType Refusal
block_type_read n = cond (ltb 4 n) (Err WrongByte) (Ok (block_type_of n))

-- one thing for the long kinds (Long, Start and End), one for Short and one for Mixed
abbrev pub by_kind : {A : Type 0} → BlockType → A → A → A → A
by_kind Long long short mixed = long
by_kind Start long short mixed = long
by_kind End long short mixed = long
by_kind Short long short mixed = short
by_kind Mixed long short mixed = mixed
