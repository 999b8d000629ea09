-- What a statement does to a buffer is what the one line does at the turns of the steps down to it.
use Rattle.std.proofs.Common.{◌≡◌, ℕ, Bool, true, false, List, [], ◌∷◌, Option, Some, None, refl, sym, subst, inl, inr}
use Rattle.std.specs.Prelude.{ℤ, ◌==◌, if◌then◌else◌, int_le}
use Rattle.lin.specs.Forms.{Form}
use Rattle.lin.specs.declared.span.Span1.{Span1}
use Rattle.plan.specs.declared.stmt.Kind.{Kind}
use Rattle.plan.specs.declared.stmt.Pick.{Pick}
use Rattle.plan.specs.declared.stmt.Pick.TheVariants.{Min, Max}
use Rattle.plan.specs.Plan.{Statement, Seq, For, Let, First, Guard, Alloc, Fetch, Store, Publish, Statements, Empty, Then}
use Rattle.plan.specs.Symbols.{Symbols, bind, form_value, largest, turns}
use Rattle.plan.specs.Semantics.Actions.{Setting, Action, Allot, Take, Put, Change, Give, actions, block_actions, after}
use Rattle.soundness.specs.Origins.{Given}
use Rattle.soundness.specs.Claims.{In, changes, block_changes, written}
use Rattle.soundness.specs.Obligations.{picked}
use Rattle.soundness.proofs.Learned.{Spares}
use Rattle.soundness.proofs.Sound.{leaves, leaves_block}
use Rattle.soundness.proofs.Turns.{in_flat}
use Rattle.soundness.proofs.Windows.{Fills, fills_append, fills_loop}
use Rattle.soundness.proofs.Written.{in_append_left, in_append_right, written_append, written_turns}
use Rattle.tails.specs.Steps.{Turns, Named, Tested, Spine, beyond, past, spine_of, block_spine}
use Rattle.tails.specs.Maps.{visited}
use Rattle.tails.specs.Laws.{point_at}
use Rattle.tails.specs.Turns.{done_at}
use Rattle.tails.proofs.Counting.{Like, like_turns, like_if, like_behind, like_before}

module _ (setting : Setting) (b : ℕ) (f : List ℕ) where
  spares_fills : (xs : List Action) → Spares b xs → Fills b f xs
  spares_fills [] h = tt
  spares_fills (Allot c rooms ∷ later) h = (h.0, spares_fills later h.1)
  spares_fills (Take c g p ∷ later) h = (h.0, spares_fills later h.1)
  spares_fills (Put c g names p e ∷ later) h = ((λ k. absurd (cc (h.0, k))), spares_fills later h.1)
  spares_fills (Change c g k names at over e ∷ later) h = (h.0, spares_fills later h.1)
  spares_fills (Give c p ∷ later) h = spares_fills later h

  -- the line is of the buffer
  abbrev pub Owns : Statement → Type 0
  Owns (Fetch c g region) = (c == b) ≡ true
  Owns (Store c k at e) = (c == b) ≡ true
  Owns _ = ⊥

  -- where the line fills the buffer so does all, and where it writes a point at each of its turns all those are written; and all takes a
  -- point on as the line at the turns of the steps does
  pub record IsWay (n : Spine) (todo : Symbols → List Action) : Type 0 where
    pub own : Owns n.line
    pub fills : ((t : Symbols) → Fills b f (actions setting n.line t)) → (s : Symbols) → Fills b f (todo s)
    pub writes : (fs : List Form) → ((u : Symbols) → In (point_at fs u) (written b (actions setting n.line u))) → (s : Symbols) (q : List ℤ) → In q (visited n.steps fs s) → In q (written b (todo s))
    pub takes : (given : Given) (p : List ℤ) (s : Symbols) → Like given b p (todo s) (done_at (actions setting n.line) n.steps s)

  abbrev pub IsWayOf : Option Spine → (Symbols → List Action) → Type 0
  IsWayOf None todo = Unit {0}
  IsWayOf (Some n) todo = IsWay n todo

  way_loop : (i : ℕ) (x : Span1) (kind : Kind) (body : Statement) (o : Option Spine) → IsWayOf o (actions setting body) → IsWayOf (beyond (Turns i x kind) o) (actions setting (For i x kind body))
  way_loop i x kind body None h = tt
  way_loop i x kind body (Some n) h = record {
    own = h.own;
    fills = λ k s. fills_loop setting b f i x kind body s (h.fills k);
    writes = λ fs k s q m.
        let g : ℤ → List (List ℤ) = λ z. visited n.steps fs (bind s i z (int_le z (largest s x.lower))) in
        let at = in_flat g q (turns s x) m in
        written_turns b q (λ z. actions setting body (bind s i z (int_le z (largest s x.lower)))) at.0 (turns s x) at.1 (h.writes fs k (bind s i at.0 (int_le at.0 (largest s x.lower))) q at.2);
    takes = λ given p s.
        like_turns given b p (λ z. actions setting body (bind s i z (int_le z (largest s x.lower)))) (λ z. done_at (actions setting n.line) n.steps (bind s i z (int_le z (largest s x.lower)))) (turns s x)
        (λ z. h.takes given p (bind s i z (int_le z (largest s x.lower))));
  }

  in_either : (v : Bool) (q : List ℤ) (xs : List (List ℤ)) (ys : List Action) → (In q xs → In q (written b ys)) → In q (if v then xs else []) → In q (written b (if v then ys else []))
  in_either true q xs ys h m = h m
  in_either false q xs ys h m = absurd m

  fills_either : (v : Bool) (ys : List Action) → Fills b f ys → Fills b f (if v then ys else [])
  fills_either true ys h = h
  fills_either false ys h = tt

  way_guard : (low high : Form) (body : Statement) (o : Option Spine) → IsWayOf o (actions setting body) → IsWayOf (beyond (Tested low high) o) (actions setting (Guard low high body))
  way_guard low high body None h = tt
  way_guard low high body (Some n) h = record {
    own = h.own;
    fills = λ k s. fills_either (int_le (form_value low s) (form_value high s)) (actions setting body s) (h.fills k s);
    writes = λ fs k s q m. in_either (int_le (form_value low s) (form_value high s)) q (visited n.steps fs s) (actions setting body s) (h.writes fs k s q) m;
    takes = λ given p s. like_if given b p (int_le (form_value low s) (form_value high s)) (actions setting body s) (done_at (actions setting n.line) n.steps s) (h.takes given p s);
  }

  way_let : (i : ℕ) (pick : Pick) (ls : List Form) (rest : Statements) (o : Option Spine) → IsWayOf o (block_actions setting rest) → IsWayOf (beyond (Named i pick ls) o) (block_actions setting (Then (Let i pick ls) rest))
  way_let i pick ls rest None h = tt
  way_let i Min ls rest (Some n) h = record {
    own = h.own;
    fills = λ k s. h.fills k (bind s i (picked Min ls s) true);
    writes = λ fs k s q m. h.writes fs k (bind s i (picked Min ls s) true) q m;
    takes = λ given p s. h.takes given p (bind s i (picked Min ls s) true);
  }
  way_let i Max ls rest (Some n) h = record {
    own = h.own;
    fills = λ k s. h.fills k (bind s i (picked Max ls s) true);
    writes = λ fs k s q m. h.writes fs k (bind s i (picked Max ls s) true) q m;
    takes = λ given p s. h.takes given p (bind s i (picked Max ls s) true);
  }

  way_line : (v : Bool) (a : Statement) → (v ≡ true → Owns a) → IsWayOf (if v then Some (record { steps = []; line = a }) else None) (actions setting a)
  way_line true a h = record {
    own = h refl;
    fills = λ k s. k s;
    writes = λ fs k s q m. elim m [ inl e ↦ subst (λ p. In p (written b (actions setting a s))) (sym e) (k s) | inr none ↦ absurd none ];
    takes = λ given p s i j t. t;
  }
  way_line false a h = tt

  -- the first statement of a block, where the others leave the buffer alone
  way_first : (a : Statement) (rest : Statements) → block_changes rest b ≡ false → (o : Option Spine) → IsWayOf o (actions setting a) → IsWayOf o (block_actions setting (Then a rest))
  way_first a rest e None h = tt
  way_first a rest e (Some n) h = record {
    own = h.own;
    fills = λ k s.
        fills_append b f (actions setting a s) (block_actions setting rest (after a s)) (h.fills k s)
        (spares_fills (block_actions setting rest (after a s)) (leaves_block setting rest (after a s) b e));
    writes = λ fs k s q m.
        subst (In q) (sym (written_append b (actions setting a s) (block_actions setting rest (after a s))))
        (in_append_left q (written b (actions setting a s)) (written b (block_actions setting rest (after a s))) (h.writes fs k s q m));
    takes = λ given p s.
        like_behind given b p (actions setting a s) (block_actions setting rest (after a s)) (done_at (actions setting n.line) n.steps s) (h.takes given p s) (leaves_block setting rest (after a s) b e);
  }

  -- a later one, where the first leaves it alone and binds nothing
  way_later : (a : Statement) (rest : Statements) → changes a b ≡ false → ((s : Symbols) → after a s ≡ s) → (o : Option Spine) → IsWayOf o (block_actions setting rest) → IsWayOf o (block_actions setting (Then a rest))
  way_later a rest e same None h = tt
  way_later a rest e same (Some n) h = record {
    own = h.own;
    fills = λ k s.
        fills_append b f (actions setting a s) (block_actions setting rest (after a s)) (spares_fills (actions setting a s) (leaves setting a s b e))
        (h.fills k (after a s));
    writes = λ fs k s q m.
        subst (In q) (sym (written_append b (actions setting a s) (block_actions setting rest (after a s))))
        (in_append_right q (written b (actions setting a s)) (written b (block_actions setting rest (after a s)))
        (subst (λ t. In q (written b (block_actions setting rest t))) (sym (same s)) (h.writes fs k s q m)));
    takes = λ given p s.
        like_before given b p (actions setting a s) (block_actions setting rest (after a s)) (done_at (actions setting n.line) n.steps s) (leaves setting a s b e)
        (subst (λ t. Like given b p (block_actions setting rest (after a s)) (done_at (actions setting n.line) n.steps t)) (same s) (h.takes given p (after a s)));
  }

  way_past : (a : Statement) (rest : Statements) → changes a b ≡ false → (o : Option Spine) → IsWayOf o (block_actions setting rest) → IsWayOf (past a o) (block_actions setting (Then a rest))
  way_past (Let i pick ls) rest e o h = way_let i pick ls rest o h
  way_past (Seq all) rest e o h = way_later (Seq all) rest e (λ s. refl) o h
  way_past (For i x kind body) rest e o h = way_later (For i x kind body) rest e (λ s. refl) o h
  way_past (First i x y) rest e o h = way_later (First i x y) rest e (λ s. refl) o h
  way_past (Guard low high body) rest e o h = way_later (Guard low high body) rest e (λ s. refl) o h
  way_past (Alloc c g places) rest e o h = way_later (Alloc c g places) rest e (λ s. refl) o h
  way_past (Fetch c g region) rest e o h = way_later (Fetch c g region) rest e (λ s. refl) o h
  way_past (Store c k at v) rest e o h = way_later (Store c k at v) rest e (λ s. refl) o h
  way_past (Publish c) rest e o h = way_later (Publish c) rest e (λ s. refl) o h

  way_block : (a : Statement) (rest : Statements) (v w : Bool) → changes a b ≡ v → block_changes rest b ≡ w → IsWayOf (spine_of a b) (actions setting a) → IsWayOf (block_spine rest b) (block_actions setting rest) →
      IsWayOf (if v then (if w then None else spine_of a b) else past a (block_spine rest b)) (block_actions setting (Then a rest))
  way_block a rest true true e k g h = tt
  way_block a rest true false e k g h = way_first a rest k (spine_of a b) g
  way_block a rest false w e k g h = way_past a rest e (block_spine rest b) h

  mutual
    pub way : (a : Statement) → IsWayOf (spine_of a b) (actions setting a)
    way (Seq all) = block_way all
    way (For i x kind body) = way_loop i x kind body (spine_of body b) (way body)
    way (Let i pick ls) = tt
    way (First i a c) = tt
    way (Guard low high body) = way_guard low high body (spine_of body b) (way body)
    way (Alloc c g places) = tt
    way (Fetch c g region) = way_line (c == b) (Fetch c g region) (λ h. h)
    way (Store c k at e) = way_line (c == b) (Store c k at e) (λ h. h)
    way (Publish c) = tt

    pub block_way : (row : Statements) → IsWayOf (block_spine row b) (block_actions setting row)
    block_way Empty = tt
    block_way (Then a rest) = way_block a rest (changes a b) (block_changes rest b) refl refl (way a) (block_way rest)
