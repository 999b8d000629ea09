-- What a turn leaves of a claim is known in the next one.
use Rattle.std.proofs.Common.{◌≡◌, ℕ, ◌+◌, ◌-◌, Bool, true, false, List, [], ◌∷◌, ◌++◌, map, refl, sym, ap, ◌∙◌, inl, inr, arith}
use Rattle.std.specs.Prelude.{ℤ, pos, ◌+ℤ◌, ◌==◌, ◌||◌, ◌&&◌, not, if◌then◌else◌, int_le}
use Rattle.std.specs.List.{list_any}
use Rattle.std.proofs.lemmas.Int.{ints}
use Rattle.plan.specs.Plan.{Statement, Seq, For, Let, First, Guard, Alloc, Fetch, Store, Publish, Statements, Empty, Then}
use Rattle.plan.specs.declared.stmt.Pick.TheVariants.{Min, Max}
use Rattle.plan.specs.Symbols.{Symbols, bind}
use Rattle.plan.specs.Lines.{lines}
use Rattle.plan.specs.Semantics.Actions.{actions, after}
use Rattle.soundness.specs.Origins.{Outline, Given}
use Rattle.soundness.specs.Claims.{In, Fact, Scope, changes, block_changes, keep, stable, new_fact, onward, block_left, turn_symbols, in_turn}
use Rattle.soundness.specs.Around.{Binder, Picked, picked, binds, inside, AreTurns}
use Rattle.soundness.specs.Obligations.{Rules, is_member, more_binders, gives, stands_alone}
use Rattle.soundness.specs.Handed.{TurnsHandOn, binders_there, scope_there}
use Rattle.soundness.proofs.Forms.{is_not}
use Rattle.soundness.proofs.Refines.{and_parts, eq_refl, eq_true}
use Rattle.soundness.proofs.Sound.{or_left, or_right}
use Rattle.soundness.proofs.Windows.{keep_has, handed_has}
use Rattle.soundness.proofs.Written.{in_append_left, in_append_right}

pub bind_beside : (s : Symbols) (i : ℕ) (z : ℤ) (b : Bool) (j : ℕ) → (j == i) ≡ false → (bind s i z b).value j ≡ s.value j
bind_beside s i z b j h = rw h refl

pub bind_here : (s : Symbols) (i : ℕ) (z : ℤ) (b : Bool) → (bind s i z b).value i ≡ z
bind_here s i z b = let same : (i == i) ≡ true = eq_refl i in rw same refl

pub bind_first : (s : Symbols) (i : ℕ) (z : ℤ) (b : Bool) → (bind s i z b).first i ≡ b
bind_first s i z b = let same : (i == i) ≡ true = eq_refl i in rw same refl

-- the values in a turn of the loop, after some lets: the loop's number and whether the turn is the first stand, and so do all symbols but those
-- bound inside the loop
pub record IsWithin (i : ℕ) (z : ℤ) (v : Bool) (inner : List Binder) (s t : Symbols) : Type 0 where
  pub value : t.value i ≡ z
  pub first : t.first i ≡ v
  pub same : AreTurns i inner s t

pub first_beside : (t : Symbols) (j : ℕ) (y : ℤ) (i : ℕ) → (i == j) ≡ false → (bind t j y true).first i ≡ t.first i
first_beside t j y i h = rw h refl

module _ (outline : Outline) (rules : Rules) (i : ℕ) (z : ℤ) (v : Bool) (s : Symbols) where
  let_within : (j : ℕ) (y : ℤ) (b : Binder) (inner : List Binder) (t : Symbols) → ((k : ℕ) → binds k b ≡ (k == j)) → (i == j) ≡ false → IsWithin i z v inner s t →
      IsWithin i z v (b ∷ inner) s (bind t j y true)
  let_within j y b inner t is h w = record {
    value = bind_beside t j y true i h ∙ w.value;
    first = first_beside t j y i h ∙ w.first;
    same = λ k e lacks. bind_beside t j y true k (sym (is k) ∙ or_left (binds k b) (list_any (binds k) inner) lacks) ∙ w.same k e (or_right (binds k b) (list_any (binds k) inner) lacks);
  }

  after_within : (a : Statement) (bs : List Binder) (t : Symbols) → gives i a ≡ false → IsWithin i z v (inside i bs) s t → IsWithin i z v (inside i (more_binders outline rules a bs)) s (after a t)
  after_within (Let j Min ls) bs t h w = let_within j (picked Min ls t) (Picked j Min ls) (inside i bs) t (λ k. refl) h w
  after_within (Let j Max ls) bs t h w = let_within j (picked Max ls t) (Picked j Max ls) (inside i bs) t (λ k. refl) h w
  after_within (Seq all) bs t h w = w
  after_within (For j x kind body) bs t h w = w
  after_within (First j a c) bs t h w = w
  after_within (Guard low high body) bs t h w = w
  after_within (Alloc b f places) bs t h w = w
  after_within (Fetch b g region) bs t h w = w
  after_within (Store b k at e) bs t h w = w
  after_within (Publish c) bs t h w = w

module _ (given : Given) (rules : Rules) (i c : ℕ) where
  abbrev b : ℕ
  b = (given.outline.claim c).buffer

  member_fact : (t : Symbols) (cs : List ℕ) (hs : List Fact) → is_member c cs ≡ true → In (new_fact given t c) (map (new_fact given t) cs ++ hs)
  member_fact t [] hs h = absurd (cc h)
  member_fact t (d ∷ cs) hs h = of (d == c) refl h (member_fact t cs hs)
    where
      of : (w : Bool) → (d == c) ≡ w → (w || is_member c cs) ≡ true → (is_member c cs ≡ true → In (new_fact given t c) (map (new_fact given t) cs ++ hs)) →
          In (new_fact given t c) (new_fact given t d ∷ map (new_fact given t) cs ++ hs)
      of true e k rest = inl (ap (new_fact given t) (sym (eq_true d c e)))
      of false e k rest = inr (rest k)

  -- a fact of the claim stays where the buffer is left alone
  pub onward_has : (a : Statement) (line : ℕ) (sc : Scope) (t : Symbols) → changes a b ≡ false → In (new_fact given t c) sc.facts → In (new_fact given t c) (onward given a line sc).facts
  onward_has a line sc t e m =
      in_append_right (new_fact given t c) (map (new_fact given sc.symbols) (given.outline.named (line + lines a - 1))) (keep given a (actions given.outline.setting a sc.symbols) sc.rooms sc.facts)
      (keep_has given a (actions given.outline.setting a sc.symbols) sc.rooms (new_fact given t c) sc.facts m e)

  rest_has : (row : Statements) (line : ℕ) (sc : Scope) (t : Symbols) → block_changes row b ≡ false → In (new_fact given t c) sc.facts → In (new_fact given t c) (block_left given row line sc)
  rest_has Empty line sc t e m = m
  rest_has (Then a rest) line sc t e m =
      rest_has rest (line + lines a) (onward given a line sc) t (or_right (changes a b) (block_changes rest b) e) (onward_has a line sc t (or_left (changes a b) (block_changes rest b) e) m)

  module _ (z : ℤ) (v : Bool) (s : Symbols) where
    -- what is known where the statement begins
    pub record IsThere (inner : List Binder) (facts left : List Fact) (there : Scope) : Type 0 where
      pub within : IsWithin i z v inner s there.symbols
      pub known : (t : Symbols) → In (new_fact given t c) facts → In (new_fact given t c) there.facts
      pub leaves : In (new_fact given there.symbols c) left

    there : (row : Statements) (line : ℕ) (bs : List Binder) (sc : Scope) → stands_alone given.outline i c row line ≡ true → IsWithin i z v (inside i bs) s sc.symbols →
        IsThere (inside i (binders_there given.outline rules c row line bs)) sc.facts (block_left given row line sc) (scope_there given c row line sc)
    there Empty line bs sc h w = absurd (cc h)
    there (Then a rest) line bs sc h w = of (is_member c named) refl h (there rest (line + lines a) (more_binders given.outline rules a bs) (onward given a line sc))
      where
        named : List ℕ
        named = given.outline.named (line + lines a - 1)

        of : (m : Bool) → is_member c named ≡ m →
            (if m then not (block_changes rest b) else (not (changes a b) && (not (gives i a) && stands_alone given.outline i c rest (line + lines a)))) ≡ true →
            (stands_alone given.outline i c rest (line + lines a) ≡ true → IsWithin i z v (inside i (more_binders given.outline rules a bs)) s (after a sc.symbols) →
            IsThere (inside i (binders_there given.outline rules c rest (line + lines a) (more_binders given.outline rules a bs))) (onward given a line sc).facts
            (block_left given rest (line + lines a) (onward given a line sc)) (scope_there given c rest (line + lines a) (onward given a line sc))) →
            IsThere (inside i (if m then bs else binders_there given.outline rules c rest (line + lines a) (more_binders given.outline rules a bs))) sc.facts
            (block_left given rest (line + lines a) (onward given a line sc)) (if m then sc else scope_there given c rest (line + lines a) (onward given a line sc))
        of true e k later = record {
          within = w;
          known = λ t m. m;
          leaves = rest_has rest (line + lines a) (onward given a line sc) sc.symbols (is_not (block_changes rest b) k)
              (member_fact sc.symbols named (keep given a (actions given.outline.setting a sc.symbols) sc.rooms sc.facts) e);
        }
        of false e k later =
            let k1 = and_parts (not (changes a b)) _ k in
            let k2 = and_parts (not (gives i a)) _ k1.1 in
            let r = later k2.1 (after_within given.outline rules i z v s a bs sc.symbols (is_not (gives i a) k2.0) w) in
            record { within = r.within; known = λ t m. r.known t (onward_has a line sc t (is_not (changes a b) k1.0) m); leaves = r.leaves }

pub no_more : (low z : ℤ) → z ≡ low → int_le z low ≡ true
no_more low z e = grind (arith, ints)

pub turns_hand_on : TurnsHandOn
turns_hand_on given rules i c row line bs sc low z carried windowed alone none handed = record {
  known = elim handed [
    | inl first ↦ inl (at.within.first ∙ no_more low z first)
    | inr h ↦ inr (
      h.0,
      record { next = h.1 ∙ sym at.within.value; same = λ j e lacks. at.within.same j e lacks ∙ sym (h.2 j e lacks) },
      at.known h.0
          (in_append_left (new_fact given h.0 c) carried (stable given (Seq row) sc.facts) h.3),
    )
  ];
  next = inr (there_symbols, ap (λ y. y +ℤ pos 1) at.within.value, at.within.same, handed_has given i (Seq row) (new_fact given there_symbols c) (block_left given row line turn) at.leaves windowed);
}
  where
    turn : Scope
    turn = in_turn given (turn_symbols given sc.symbols i low z) (Seq row) sc carried

    start : IsWithin i z (int_le z low) (inside i bs) sc.symbols turn.symbols
    start = record { value = bind_here sc.symbols i z (int_le z low); first = bind_first sc.symbols i z (int_le z low); same = λ j e lacks. bind_beside sc.symbols i z (int_le z low) j e }

    at : IsThere given rules i c z (int_le z low) sc.symbols (inside i (binders_there given.outline rules c row line bs)) turn.facts (block_left given row line turn)
        (scope_there given c row line turn)
    at = there given rules i c z (int_le z low) sc.symbols row line bs turn alone start

    there_symbols : Symbols
    there_symbols = (scope_there given c row line turn).symbols
