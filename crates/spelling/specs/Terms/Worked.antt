-- Worked examples of the definitions.
use Rattle.std.specs.Prelude.{◌≡◌, ℕ, [], true, false, pos, negsuc, codes}
use Rattle.numeric.specs.declared.ty.Ty.TheVariants.{U8, U16, I32}
use Rattle.numeric.specs.declared.op.Op.TheVariants.{Add, Min}
use Rattle.numeric.specs.declared.op.Comparison.TheVariants.{AtMost, Equal}
use Rattle.tree.specs.Term.{Term, Number, Name, Call, Minus, Binary, Clamp, Cast, Choice, End, More, Compares, Fails, Both}
use Rattle.spelling.specs.Terms.Spelling.{term_text}
use Rattle.spelling.specs.Terms.Fitting.{fits_term}
use Rattle.spelling.specs.Terms.Reading.{term_from}

abbrev x : Term
x = Name (codes "x")

abbrev number : ℕ → Term
number n = Number I32 (pos n)

-- one more than a sample
abbrev plus_one : Term
plus_one = Binary Add (Call (codes "in") (More x (More (Name (codes "y")) End))) (Number U8 (pos 1))

abbrev pub PlusOne : Type 0
PlusOne = (term_text plus_one ≡ codes "(in[x,y]+1u8)") × (fits_term plus_one ≡ true) × (term_from (codes "(in[x,y]+1u8)") ≡ (plus_one, []))

-- a load by a claim, between clamped ends, as another type
abbrev clamped_load : Term
clamped_load = Cast U16 (Call (codes "@12") (More (Clamp (Minus x) (number 0) (number 7)) End))

abbrev pub ClampedLoad : Type 0
ClampedLoad = (term_text clamped_load ≡ codes "u16(@12[clamp((-x),0,7)])") × (fits_term clamped_load ≡ true) × (term_from (codes "u16(@12[clamp((-x),0,7)]) y") ≡ (clamped_load, codes " y"))

-- a choice
abbrev chosen : Term
chosen = Choice (Both (Compares AtMost x (number 3)) (Fails (Compares Equal x (number 1)))) (Binary Min x (number 2)) x

abbrev pub Chosen : Type 0
Chosen = (term_text chosen ≡ codes "select(all(x<=3,not(x==1)),min(x,2),x)") × (fits_term chosen ≡ true) × (term_from (codes "select(all(x<=3,not(x==1)),min(x,2),x)") ≡ (chosen, []))

-- a literal below 0 or past its type, a word of the grammar as a name, a call without indices, a load with a zero in front
abbrev pub Misfits : Type 0
Misfits =
    (fits_term (Number I32 (negsuc 0)) ≡ false) × (fits_term (Number U8 (pos 256)) ≡ false) × (fits_term (Name (codes "min")) ≡ false)
    × (fits_term (Call (codes "in") End) ≡ false) × (fits_term (Call (codes "@01") (More x End)) ≡ false)
