-- Worked examples of moved expressions.
use Rattle.std.specs.Prelude.{◌≡◌, ℕ, pos, [], ◌∷◌, codes, Some}
use Rattle.numeric.specs.declared.ty.Ty.TheVariants.{U8, I32}
use Rattle.numeric.specs.declared.op.Op.TheVariants.{Add, Sub, Div, Rem}
use Rattle.numeric.specs.declared.op.Comparison.TheVariants.{Less}
use Rattle.tree.specs.Term.{Term, Number, Name, Call, Binary, Clamp, End, More, Compares}
use Rattle.crop.specs.Moving.{Move, moved, test_moved}

abbrev x : Term
x = Name (codes "x")

abbrev i : ℕ → Term
i n = Number I32 (pos n)

-- x is moved by 64 and stands for 64 to 127; the input begins at 62
abbrev inner : Move
inner = record {
  variables = λ name. pos 64;
  origins = λ name. pos 62 ∷ [];
  functions = λ name. Some (U8, 1);
  ends = λ e. Some (record { low = pos 64; high = pos 127 });
}

-- x + 2 lies between 66 and 129
abbrev right : Move
right = record {
  variables = λ name. pos 64;
  origins = λ name. pos 62 ∷ [];
  functions = λ name. Some (U8, 1);
  ends = λ e. Some (record { low = pos 66; high = pos 129 });
}

abbrev reads : Term → Term
reads at = Call (codes "in") (More at End)

-- in[x - 1] becomes in[x + 1], in[x - 2] in[x]
abbrev pub ReadsMove : Type 0
ReadsMove = (moved inner (pos 0) (reads (Binary Sub x (i 1))) ≡ reads (Binary Add x (i 1)))
    × (moved inner (pos 0) (reads (Binary Sub x (i 2))) ≡ reads x)

-- a clamp that cannot bite has the argument's ends: in[clamp(x + 2, 0, 255)] becomes in[clamp(x + 4, 4, 67)]
abbrev pub ClampsMove : Type 0
ClampsMove = moved right (pos 0) (reads (Clamp (Binary Add x (i 2)) (i 0) (i 255))) ≡ reads (Clamp (Binary Add x (i 4)) (i 4) (i 67))

-- x / 2 becomes x / 2 + 32, x % 2 stays, and x < 100 becomes x < 36
abbrev pub QuotientsMove : Type 0
QuotientsMove = (moved inner (pos 0) (Binary Div x (i 2)) ≡ Binary Add (Binary Div x (i 2)) (i 32))
    × (moved inner (pos 0) (Binary Rem x (i 2)) ≡ Binary Rem x (i 2))

abbrev pub ComparisonsMove : Type 0
ComparisonsMove = (test_moved inner (Compares Less x (i 100)) ≡ Compares Less x (i 36))
    × (test_moved inner (Compares Less x (i 200)) ≡ Compares Less x (i 64))
