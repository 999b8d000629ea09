-- What a piece gives are its own cells: its last line publishes them.
use Rattle.std.proofs.Common.{◌≡◌, ℕ, Bool, true, false, List, [], ◌∷◌, map, refl, subst}
use Rattle.std.specs.Prelude.{ℤ, ◌||◌, slice_get}
use Rattle.std.specs.List.{AllByRecursion}
use Rattle.meaning.specs.Functions.{IsPoint}
use Rattle.plan.specs.declared.stmt.Pick.TheVariants.{Min, Max}
use Rattle.plan.specs.Certificate.Certificate.{Certificate}
use Rattle.plan.specs.Certificate.Cells.{own_points}
use Rattle.plan.specs.Plan.{Group, Plan, Statement, Seq, For, Let, First, Guard, Alloc, Fetch, Store, Publish, Statements, Empty, Then}
use Rattle.plan.specs.Symbols.{Symbols, bind, largest, smallest}
use Rattle.plan.specs.Semantics.Actions.{Setting, Give, actions, after, block_actions}
use Rattle.plan.specs.Semantics.Setting.{setting_of}
use Rattle.soundness.proofs.Forms.{rec_left, rec_right}
use Rattle.soundness.proofs.Refines.{eq_refl}
use Rattle.headline.specs.Sound.{IsPublished, PublishesLast, BlockPublishesLast, binds, block_binds}
use Rattle.headline.proofs.Gives.{own_same}
use Rattle.soundness.specs.Given.{claim_or_none}
use Rattle.audit.specs.Verdict.Indices.{GivesIndices}

or_first : (v w : Bool) → v ≡ true → (v || w) ≡ true
or_first true w h = refl
or_first false w h = absurd (cc h)

or_second : (v w : Bool) → w ≡ true → (v || w) ≡ true
or_second true w h = refl
or_second false w h = h

module _ (setting : Setting) where
  -- the own points stay as they are when one of the symbols that the statement binds gets a value
  abbrev AreKept : (ℕ → Bool) → Type 0
  AreKept has = (i : ℕ) → has i ≡ true → (s : Symbols) (z : ℤ) (b : Bool) → setting.own (bind s i z b) ≡ setting.own s

  own_after : (a : Statement) (s : Symbols) → AreKept (binds a) → setting.own (after a s) ≡ setting.own s
  own_after (Let i Min forms) s keeps = keeps i (eq_refl i) s (smallest s forms) true
  own_after (Let i Max forms) s keeps = keeps i (eq_refl i) s (largest s forms) true
  own_after (Seq all) s keeps = refl
  own_after (For i x kind body) s keeps = refl
  own_after (First i a b) s keeps = refl
  own_after (Guard low high body) s keeps = refl
  own_after (Alloc b f places) s keeps = refl
  own_after (Fetch b g region) s keeps = refl
  own_after (Store b k at e) s keeps = refl
  own_after (Publish c) s keeps = refl

  given_points : (c : ℕ) (ps : List (List ℤ)) → AllByRecursion GivesIndices (map (Give c) ps) → AllByRecursion IsPoint ps
  given_points c [] h = tt
  given_points c (p ∷ ps) h = (h.0, given_points c ps h.1)

  module _ (P : ℕ → Type 0) where
    mutual
      own : (a : Statement) (s : Symbols) → PublishesLast P a → AreKept (binds a) → AllByRecursion GivesIndices (actions setting a s) → AllByRecursion IsPoint (setting.own s)
      own (Seq all) s last keeps h = block_own all s last keeps h
      own (For i x kind body) s last keeps h = absurd last
      own (Let i pick forms) s last keeps h = absurd last
      own (First i a b) s last keeps h = absurd last
      own (Guard low high body) s last keeps h = absurd last
      own (Alloc b f places) s last keeps h = absurd last
      own (Fetch b g region) s last keeps h = absurd last
      own (Store b k at e) s last keeps h = absurd last
      own (Publish c) s last keeps h = given_points c (setting.own s) h

      block_own : (all : Statements) (s : Symbols) → BlockPublishesLast P all → AreKept (block_binds all) → AllByRecursion GivesIndices (block_actions setting all s) →
          AllByRecursion IsPoint (setting.own s)
      block_own Empty s last keeps h = absurd last
      block_own (Then a Empty) s last keeps h = own a s last (λ i e. keeps i (or_first (binds a i) false e)) (rec_left GivesIndices (actions setting a s) [] h)
      block_own (Then a (Then b rest)) s last keeps h =
          subst (AllByRecursion IsPoint) (own_after a s (λ i e. keeps i (or_first (binds a i) (block_binds (Then b rest) i) e)))
          (block_own (Then b rest) (after a s) last.1 (λ i e. keeps i (or_second (binds a i) (block_binds (Then b rest) i) e))
          (rec_right GivesIndices (actions setting a s) (block_actions setting (Then b rest) (after a s)) h))

-- where a piece gives points of i32 coordinates alone it owns no others
pub own_given : (p : Plan) (c : Certificate) (n : ℕ) (g : Group) (s : Symbols) → IsPublished p c n g → AllByRecursion GivesIndices (actions (setting_of p c n g) g.body s) →
    AllByRecursion IsPoint (own_points g c n s)
own_given p c n g s published h =
    own (setting_of p c n g) (λ k. (claim_or_none (slice_get c.claims k)).function ≡ g.function) g.body s published.last (λ i e t z b. own_same t i z b g c n (published.apart i e)) h
