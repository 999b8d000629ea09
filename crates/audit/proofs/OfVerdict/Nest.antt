-- A statement of which one line changes a buffer writes and updates it as that line does.
use Rattle.std.proofs.Common.{◌≡◌, ℕ, Bool, true, false, List, ◌∷◌, Option, Some, None, refl, ap, ◌∙◌, subst}
use Rattle.std.specs.Prelude.{◌==◌, ◌||◌, ◌&&◌, if◌then◌else◌}
use Rattle.lin.specs.declared.span.Span1.{Span1}
use Rattle.meaning.specs.Names.{same_name}
use Rattle.plan.specs.Plan.{Statement, Seq, For, Let, First, Guard, Alloc, Fetch, Store, Publish, Statements, Empty, Then}
use Rattle.plan.specs.Semantics.Actions.{Setting}
use Rattle.soundness.specs.Claims.{changes, block_changes, is_update, updates, block_updates, writes, block_writes}
use Rattle.soundness.specs.Nests.Nest.{Nest, alone, inside, is_let, nest_of, block_nest}

none_of : (v w : Bool) → (v || w) ≡ false → (v ≡ false) × (w ≡ false)
none_of true w h = absurd (cc h)
none_of false w h = (refl, h)

and_true : (v : Bool) → (v && true) ≡ v
and_true true = refl
and_true false = refl

both_are : (v w : Bool) → v ≡ true → w ≡ true → (v && w) ≡ true
both_are true w h k = k
both_are false w h k = absurd (cc h)

unless : (v w : Bool) → v ≡ false → (if v then w else true) ≡ true
unless true w h = absurd (cc h)
unless false w h = refl

module _ (setting : Setting) where
  -- what leaves a buffer alone writes and updates nothing else in it
  mutual
    left_writes : (a : Statement) (b : ℕ) (f : List ℕ) → changes a b ≡ false → writes setting a b f ≡ true
    left_writes (Seq all) b f h = left_block_writes all b f h
    left_writes (For i x kind body) b f h = left_writes body b f h
    left_writes (Let i pick ls) b f h = refl
    left_writes (First i c d) b f h =
        let k = none_of (changes c b) (changes d b) h in both_are (writes setting c b f) (writes setting d b f) (left_writes c b f k.0) (left_writes d b f k.1)
    left_writes (Guard low high body) b f h = left_writes body b f h
    left_writes (Alloc c g places) b f h = unless (c == b) false h
    left_writes (Fetch c g region) b f h = unless (c == b) (same_name (setting.group_function g) f) h
    left_writes (Store c k at e) b f h = unless (c == b) (same_name (setting.buffer_function c) f) h
    left_writes (Publish c) b f h = refl

    left_block_writes : (all : Statements) (b : ℕ) (f : List ℕ) → block_changes all b ≡ false → block_writes setting all b f ≡ true
    left_block_writes Empty b f h = refl
    left_block_writes (Then a rest) b f h =
        let k = none_of (changes a b) (block_changes rest b) h in
        both_are (writes setting a b f) (block_writes setting rest b f) (left_writes a b f k.0) (left_block_writes rest b f k.1)

  mutual
    left_updates : (a : Statement) (b : ℕ) (f : List ℕ) → changes a b ≡ false → updates setting a b f ≡ true
    left_updates (Seq all) b f h = left_block_updates all b f h
    left_updates (For i x kind body) b f h = left_updates body b f h
    left_updates (Let i pick ls) b f h = refl
    left_updates (First i c d) b f h =
        let k = none_of (changes c b) (changes d b) h in both_are (updates setting c b f) (updates setting d b f) (left_updates c b f k.0) (left_updates d b f k.1)
    left_updates (Guard low high body) b f h = left_updates body b f h
    left_updates (Alloc c g places) b f h = unless (c == b) false h
    left_updates (Fetch c g region) b f h = unless (c == b) false h
    left_updates (Store c k at e) b f h = unless (c == b) (same_name (setting.buffer_function c) f && is_update k) h
    left_updates (Publish c) b f h = refl

    left_block_updates : (all : Statements) (b : ℕ) (f : List ℕ) → block_changes all b ≡ false → block_updates setting all b f ≡ true
    left_block_updates Empty b f h = refl
    left_block_updates (Then a rest) b f h =
        let k = none_of (changes a b) (block_changes rest b) h in
        both_are (updates setting a b f) (block_updates setting rest b f) (left_updates a b f k.0) (left_block_updates rest b f k.1)

  -- one side of a block that leaves the buffer alone does not count
  beside : (v w u : Bool) → w ≡ true → v ≡ u → (v && w) ≡ u
  beside v w u h e = ap (λ (x : Bool). v && x) h ∙ and_true v ∙ e

  after : (v w u : Bool) → v ≡ true → w ≡ u → (v && w) ≡ u
  after v w u h e = ap (λ (x : Bool). x && w) h ∙ e

  pub record Does (writing updating : Bool) (line : Statement) (b : ℕ) (f : List ℕ) : Type 0 where
    pub changed : changes line b ≡ true
    pub written : writing ≡ writes setting line b f
    pub updated : updating ≡ updates setting line b f

  abbrev DoesAs : (a : Statement) (b : ℕ) (f : List ℕ) (n : Nest) → Type 0
  DoesAs a b f n = Does (writes setting a b f) (updates setting a b f) n.line b f

  abbrev BlockDoesAs : (all : Statements) (b : ℕ) (f : List ℕ) (n : Nest) → Type 0
  BlockDoesAs all b f n = Does (block_writes setting all b f) (block_updates setting all b f) n.line b f

  -- a line of its own
  of_line : (a : Statement) (b : ℕ) (f : List ℕ) (n : Nest) (v : Bool) → changes a b ≡ v → (if v then Some (alone a) else None) ≡ Some n → DoesAs a b f n
  of_line a b f n true changed e =
      let same : alone a ≡ n = cc e in
      subst (λ m. DoesAs a b f m) same (record { changed = changed; written = refl; updated = refl })
  of_line a b f n false changed e = absurd (cc e)

  in_loop : (i : ℕ) (x : Span1) (o : Option Nest) (writing updating : Bool) (b : ℕ) (f : List ℕ) (n : Nest) →
      ((m : Nest) → o ≡ Some m → Does writing updating m.line b f) → inside i x o ≡ Some n → Does writing updating n.line b f
  in_loop i x None writing updating b f n h e = absurd (cc e)
  in_loop i x (Some m) writing updating b f n h e =
      let same : record { loops = record { symbol = i; span = x } ∷ m.loops; line = m.line } ≡ n = cc e in
      subst (λ (k : Nest). Does writing updating k.line b f) same (h m refl)

  in_block : (a : Statement) (rest : Statements) (b : ℕ) (f : List ℕ) (n : Nest) (v w l : Bool) → changes a b ≡ v → block_changes rest b ≡ w →
      (nest_of a b ≡ Some n → DoesAs a b f n) → (block_nest rest b ≡ Some n → BlockDoesAs rest b f n) →
      (if v then (if w then None else nest_of a b) else (if l then None else block_nest rest b)) ≡ Some n → BlockDoesAs (Then a rest) b f n
  in_block a rest b f n true true l h k one others e = absurd (cc e)
  in_block a rest b f n true false l h k one others e =
      let d = one e in record {
        changed = d.changed;
        written = beside (writes setting a b f) (block_writes setting rest b f) (writes setting n.line b f) (left_block_writes rest b f k) d.written;
        updated = beside (updates setting a b f) (block_updates setting rest b f) (updates setting n.line b f) (left_block_updates rest b f k) d.updated;
      }
  in_block a rest b f n false w true h k one others e = absurd (cc e)
  in_block a rest b f n false w false h k one others e =
      let d = others e in record {
        changed = d.changed;
        written = after (writes setting a b f) (block_writes setting rest b f) (writes setting n.line b f) (left_writes a b f h) d.written;
        updated = after (updates setting a b f) (block_updates setting rest b f) (updates setting n.line b f) (left_updates a b f h) d.updated;
      }

  mutual
    pub nest_does : (a : Statement) (b : ℕ) (f : List ℕ) (n : Nest) → nest_of a b ≡ Some n → DoesAs a b f n
    nest_does (Seq all) b f n e = block_does all b f n e
    nest_does (For i x kind body) b f n e = in_loop i x (nest_of body b) (writes setting body b f) (updates setting body b f) b f n (λ m k. nest_does body b f m k) e
    nest_does (Let i pick ls) b f n e = absurd (cc e)
    nest_does (First i c d) b f n e = absurd (cc e)
    nest_does (Guard low high body) b f n e = absurd (cc e)
    nest_does (Alloc c g places) b f n e = absurd (cc e)
    nest_does (Fetch c g region) b f n e = of_line (Fetch c g region) b f n (c == b) refl e
    nest_does (Store c k at v) b f n e = of_line (Store c k at v) b f n (c == b) refl e
    nest_does (Publish c) b f n e = absurd (cc e)

    block_does : (all : Statements) (b : ℕ) (f : List ℕ) (n : Nest) → block_nest all b ≡ Some n → BlockDoesAs all b f n
    block_does Empty b f n e = absurd (cc e)
    block_does (Then a rest) b f n e = in_block a rest b f n (changes a b) (block_changes rest b) (is_let a) refl refl (λ k. nest_does a b f n k) (λ k. block_does rest b f n k) e
