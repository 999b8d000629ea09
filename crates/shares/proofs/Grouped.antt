-- What the need lines of a piece's group name is what all need lines name for the piece.
use Rattle.std.proofs.Common.{◌≡◌, ℕ, List, [], ◌∷◌, ◌++◌, Bool, true, false, arith, ap, refl, sym, ◌∙◌, cond}
use Rattle.std.specs.Prelude.{◌==◌, ◌↔◌, All}
use Rattle.std.specs.List.{AllByRecursion}
use Rattle.std.proofs.lemmas.Bool.{false≢true}
use Rattle.std.proofs.lemmas.Bool.Decides.{nat_tests}
use Rattle.std.proofs.lemmas.List.Elements.{recursion_from_All, All-from_recursion}
use Rattle.plan.specs.Plan.{Plan}
use Rattle.plan.specs.declared.certificate.cert.Need.{Need}
use Rattle.plan.specs.Certificate.Cells.{Piece}
use Rattle.shares.specs.Filed.{needs_in, AreLinesOf}
use Rattle.shares.specs.Needed.{need_numbers, all_numbers, NeedIsInside, NeedsAreInside}
use Rattle.shares.specs.Shared.{NeedIsShared}

same_group : (m n : ℕ) → (m == n) ≡ true → m ≡ n
same_group m n e = grind (arith, nat_tests)

other_group : (m n : ℕ) → (m == n) ≡ false → m ≡ n → ⊥
other_group m n e f = let t : (m == n) ≡ true = grind (arith, nat_tests) in false≢true (sym e ∙ t)

module _ (p : Plan) (j : Piece) where
  abbrev g : ℕ
  g = j.group

  numbers_step : (b : Bool) (n : Need) (rest : List Need) (later : List ℕ) → (n.group == g) ≡ b → all_numbers p j rest ≡ later → all_numbers p j (cond b (n ∷ rest) rest) ≡ need_numbers p j n ++ later
  numbers_step true n rest later e h = ap (λ (ms : List ℕ). need_numbers p j n ++ ms) h
  numbers_step false n rest later e h = h ∙ ap (λ (ms : List ℕ). ms ++ later) (let none : [] ≡ need_numbers p j n = rw e refl in none)

  pub numbers_grouped : (ns : List Need) → all_numbers p j (needs_in ns g) ≡ all_numbers p j ns
  numbers_grouped [] = refl
  numbers_grouped (n ∷ ns) = numbers_step (n.group == g) n (needs_in ns g) (all_numbers p j ns) refl (numbers_grouped ns)

  abbrev Inside : List Need → Type 0
  Inside ns = AllByRecursion (NeedIsInside p j) ns

  inside_step : (b : Bool) (n : Need) (rest ns : List Need) → (n.group == g) ≡ b → (Inside rest ↔ Inside ns) → Inside (cond b (n ∷ rest) rest) ↔ (NeedIsInside p j n × Inside ns)
  inside_step true n rest ns e h = ((λ all. (all.0, h.0 all.1)), (λ all. (all.0, h.1 all.1)))
  inside_step false n rest ns e h = ((λ all. ((λ same. absurd (other_group n.group g e same)), h.0 all)), (λ all. h.1 all.1))

  inside_each : (ns : List Need) → Inside (needs_in ns g) ↔ Inside ns
  inside_each [] = ((λ h. h), (λ h. h))
  inside_each (n ∷ ns) = inside_step (n.group == g) n (needs_in ns g) ns refl (inside_each ns)

  pub inside_grouped : (ns : List Need) → NeedsAreInside p j (needs_in ns g) ↔ NeedsAreInside p j ns
  inside_grouped ns =
      let both = inside_each ns in (
        (λ h. All-from_recursion (NeedIsInside p j) ns (both.0 (recursion_from_All (NeedIsInside p j) (needs_in ns g) h))),
        (λ h. All-from_recursion (NeedIsInside p j) (needs_in ns g) (both.1 (recursion_from_All (NeedIsInside p j) ns h))),
      )

lines_step : (p : Plan) (g : ℕ) (b : Bool) (n : Need) (rest : List Need) → (n.group == g) ≡ b → NeedIsShared p n → AllByRecursion (λ m. (m.group ≡ g) × NeedIsShared p m) rest → AllByRecursion (λ m. (m.group ≡ g) × NeedIsShared p m) (cond b (n ∷ rest) rest)
lines_step p g true n rest e h all = ((same_group n.group g e, h), all)
lines_step p g false n rest e h all = all

lines_each : (p : Plan) (g : ℕ) (ns : List Need) → AllByRecursion (NeedIsShared p) ns → AllByRecursion (λ m. (m.group ≡ g) × NeedIsShared p m) (needs_in ns g)
lines_each p g [] h = tt
lines_each p g (n ∷ ns) h = lines_step p g (n.group == g) n (needs_in ns g) refl h.0 (lines_each p g ns h.1)

pub lines_grouped : (p : Plan) (g : ℕ) (ns : List Need) → All (NeedIsShared p) ns → AreLinesOf p g (needs_in ns g)
lines_grouped p g ns h = All-from_recursion (λ (m : Need). (m.group ≡ g) × NeedIsShared p m) (needs_in ns g) (lines_each p g ns (recursion_from_All (NeedIsShared p) ns h))
