-- A statement writes no other points in a buffer than those that the one line does at the turns of the steps down to it.
use Rattle.std.proofs.Common.{◌≡◌, ℕ, Bool, true, false, List, [], ◌∷◌, Option, Some, None, refl, subst, inl, inr}
use Rattle.std.specs.Prelude.{ℤ, ◌==◌, if◌then◌else◌, int_le, flat_map}
use Rattle.lin.specs.Forms.{Form}
use Rattle.lin.specs.declared.span.Span1.{Span1}
use Rattle.plan.specs.declared.stmt.Kind.{Kind}
use Rattle.plan.specs.declared.stmt.Pick.{Pick}
use Rattle.plan.specs.declared.stmt.Pick.TheVariants.{Min, Max}
use Rattle.plan.specs.Plan.{Statement, Seq, For, Let, First, Guard, Alloc, Fetch, Store, Publish, Statements, Empty, Then}
use Rattle.plan.specs.Symbols.{Symbols, bind, form_value, largest, turns}
use Rattle.plan.specs.Semantics.Actions.{Setting, Action, Allot, Take, Put, Change, Give, actions, block_actions, after}
use Rattle.soundness.specs.Claims.{In, changes, block_changes, written}
use Rattle.soundness.specs.Obligations.{picked}
use Rattle.soundness.proofs.Learned.{Spares}
use Rattle.soundness.proofs.Sound.{leaves, leaves_block}
use Rattle.soundness.proofs.Turns.{in_append}
use Rattle.soundness.proofs.Written.{written_append, turn_written}
use Rattle.tails.specs.Steps.{Turns, Named, Tested, Spine, beyond, past, spine_of, block_spine}
use Rattle.tails.specs.Maps.{visited}
use Rattle.tails.specs.Laws.{point_at}
use Rattle.tails.proofs.Walk.{in_left, in_right}

flat_in : {A B : Type 0} (f : A → List B) (y : B) (x : A) (xs : List A) → In x xs → In y (f x) → In y (flat_map f xs)
flat_in f y x [] m h = absurd m
flat_in f y x (z ∷ zs) (inl e) h = in_left y (f z) (flat_map f zs) (subst (λ w. In y (f w)) e h)
flat_in f y x (z ∷ zs) (inr m) h = in_right y (f z) (flat_map f zs) (flat_in f y x zs m h)

unwritten_if : (v : Bool) (q x : List ℤ) (ys : List (List ℤ)) → v ≡ false → (In q ys → ⊥) → In q (if v then x ∷ ys else ys) → ⊥
unwritten_if true q x ys e h m = absurd (cc e)
unwritten_if false q x ys e h m = h m

-- nothing is written in a buffer that is spared
spares_unwritten : (b : ℕ) (q : List ℤ) (xs : List Action) → Spares b xs → In q (written b xs) → ⊥
spares_unwritten b q [] h m = m
spares_unwritten b q (Allot c rooms ∷ later) h m = spares_unwritten b q later h.1 m
spares_unwritten b q (Take c f p ∷ later) h m = unwritten_if (c == b) q p (written b later) h.0 (spares_unwritten b q later h.1) m
spares_unwritten b q (Put c f names p e ∷ later) h m = unwritten_if (c == b) q p (written b later) h.0 (spares_unwritten b q later h.1) m
spares_unwritten b q (Change c f k names at over e ∷ later) h m = spares_unwritten b q later h.1 m
spares_unwritten b q (Give c p ∷ later) h m = spares_unwritten b q later h m

module _ (setting : Setting) (b : ℕ) where
  -- where the line writes but the one point at each of its turns, all that is written is visited
  abbrev pub IsBack : Spine → (Symbols → List Action) → Type 0
  IsBack n todo =
      (fs : List Form) → ((u : Symbols) (q : List ℤ) → In q (written b (actions setting n.line u)) → q ≡ point_at fs u) →
      (s : Symbols) (q : List ℤ) → In q (written b (todo s)) → In q (visited n.steps fs s)

  abbrev pub IsBackOf : Option Spine → (Symbols → List Action) → Type 0
  IsBackOf None todo = Unit {0}
  IsBackOf (Some n) todo = IsBack n todo

  back_loop : (i : ℕ) (x : Span1) (kind : Kind) (body : Statement) (o : Option Spine) → IsBackOf o (actions setting body) → IsBackOf (beyond (Turns i x kind) o) (actions setting (For i x kind body))
  back_loop i x kind body None h = tt
  back_loop i x kind body (Some n) h =
      λ fs k s q m.
      let g : ℤ → List Action = λ z. actions setting body (bind s i z (int_le z (largest s x.lower))) in
      let at = turn_written b q g (turns s x) m in
      flat_in (λ z. visited n.steps fs (bind s i z (int_le z (largest s x.lower)))) q at.0 (turns s x) at.1 (h fs k (bind s i at.0 (int_le at.0 (largest s x.lower))) q at.2)

  back_either : (v : Bool) (q : List ℤ) (xs : List (List ℤ)) (ys : List Action) → (In q (written b ys) → In q xs) → In q (written b (if v then ys else [])) → In q (if v then xs else [])
  back_either true q xs ys h m = h m
  back_either false q xs ys h m = absurd m

  back_guard : (low high : Form) (body : Statement) (o : Option Spine) → IsBackOf o (actions setting body) → IsBackOf (beyond (Tested low high) o) (actions setting (Guard low high body))
  back_guard low high body None h = tt
  back_guard low high body (Some n) h =
      λ fs k s q m. back_either (int_le (form_value low s) (form_value high s)) q (visited n.steps fs s) (actions setting body s) (h fs k s q) m

  back_let : (i : ℕ) (pick : Pick) (ls : List Form) (rest : Statements) (o : Option Spine) → IsBackOf o (block_actions setting rest) →
      IsBackOf (beyond (Named i pick ls) o) (block_actions setting (Then (Let i pick ls) rest))
  back_let i pick ls rest None h = tt
  back_let i Min ls rest (Some n) h = λ fs k s q m. h fs k (bind s i (picked Min ls s) true) q m
  back_let i Max ls rest (Some n) h = λ fs k s q m. h fs k (bind s i (picked Max ls s) true) q m

  back_line : (v : Bool) (a : Statement) → IsBackOf (if v then Some (record { steps = []; line = a }) else None) (actions setting a)
  back_line true a = λ fs k s q m. inl (k s q m)
  back_line false a = tt

  -- the first statement of a block, where the others leave the buffer alone
  back_first : (a : Statement) (rest : Statements) → block_changes rest b ≡ false → (o : Option Spine) → IsBackOf o (actions setting a) → IsBackOf o (block_actions setting (Then a rest))
  back_first a rest e None h = tt
  back_first a rest e (Some n) h =
      λ fs k s q m.
      let split = in_append q (written b (actions setting a s)) (written b (block_actions setting rest (after a s)))
      (subst (In q) (written_append b (actions setting a s) (block_actions setting rest (after a s))) m) in
      elim split [ inl here ↦ h fs k s q here | inr later ↦ absurd (spares_unwritten b q (block_actions setting rest (after a s)) (leaves_block setting rest (after a s) b e) later) ]

  -- a later one, where the first leaves it alone and binds nothing
  back_later : (a : Statement) (rest : Statements) → changes a b ≡ false → ((s : Symbols) → after a s ≡ s) → (o : Option Spine) → IsBackOf o (block_actions setting rest) →
      IsBackOf o (block_actions setting (Then a rest))
  back_later a rest e same None h = tt
  back_later a rest e same (Some n) h =
      λ fs k s q m.
      let split = in_append q (written b (actions setting a s)) (written b (block_actions setting rest (after a s)))
      (subst (In q) (written_append b (actions setting a s) (block_actions setting rest (after a s))) m) in
      elim split [
        | inl here ↦ absurd (spares_unwritten b q (actions setting a s) (leaves setting a s b e) here)
        | inr later ↦ h fs k s q (subst (λ t. In q (written b (block_actions setting rest t))) (same s) later)
      ]

  back_past : (a : Statement) (rest : Statements) → changes a b ≡ false → (o : Option Spine) → IsBackOf o (block_actions setting rest) → IsBackOf (past a o) (block_actions setting (Then a rest))
  back_past (Let i pick ls) rest e o h = back_let i pick ls rest o h
  back_past (Seq all) rest e o h = back_later (Seq all) rest e (λ s. refl) o h
  back_past (For i x kind body) rest e o h = back_later (For i x kind body) rest e (λ s. refl) o h
  back_past (First i x y) rest e o h = back_later (First i x y) rest e (λ s. refl) o h
  back_past (Guard low high body) rest e o h = back_later (Guard low high body) rest e (λ s. refl) o h
  back_past (Alloc c g places) rest e o h = back_later (Alloc c g places) rest e (λ s. refl) o h
  back_past (Fetch c g region) rest e o h = back_later (Fetch c g region) rest e (λ s. refl) o h
  back_past (Store c k at v) rest e o h = back_later (Store c k at v) rest e (λ s. refl) o h
  back_past (Publish c) rest e o h = back_later (Publish c) rest e (λ s. refl) o h

  back_block : (a : Statement) (rest : Statements) (v w : Bool) → changes a b ≡ v → block_changes rest b ≡ w → IsBackOf (spine_of a b) (actions setting a) →
      IsBackOf (block_spine rest b) (block_actions setting rest) →
      IsBackOf (if v then (if w then None else spine_of a b) else past a (block_spine rest b)) (block_actions setting (Then a rest))
  back_block a rest true true e k g h = tt
  back_block a rest true false e k g h = back_first a rest k (spine_of a b) g
  back_block a rest false w e k g h = back_past a rest e (block_spine rest b) h

  mutual
    pub back : (a : Statement) → IsBackOf (spine_of a b) (actions setting a)
    back (Seq all) = block_back all
    back (For i x kind body) = back_loop i x kind body (spine_of body b) (back body)
    back (Let i pick ls) = tt
    back (First i a c) = tt
    back (Guard low high body) = back_guard low high body (spine_of body b) (back body)
    back (Alloc c g places) = tt
    back (Fetch c g region) = back_line (c == b) (Fetch c g region)
    back (Store c k at e) = back_line (c == b) (Store c k at e)
    back (Publish c) = tt

    pub block_back : (row : Statements) → IsBackOf (block_spine row b) (block_actions setting row)
    block_back Empty = tt
    block_back (Then a rest) = back_block a rest (changes a b) (block_changes rest b) refl refl (back a) (block_back rest)
