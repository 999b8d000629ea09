-- Rooms, noted in the order in which they are allocated.
use Rattle.std.proofs.Common.{◌≡◌, ℕ, suc, ◌+◌, ◌<◌, List, [], ◌∷◌, ◌++◌, length, drop, get_or, drop-cons, Bool, true, false, Option, Some, None, refl, sym, ap, ◌∙◌, add-one}
use Rattle.std.specs.Prelude.{◌==◌, if◌then◌else◌}
use Rattle.plan.specs.declared.stmt.Stmt.{Stmt}
use Rattle.plan.specs.Plan.{block}
use Rattle.plan.specs.Lists.{list_statements}
use Rattle.plan.specs.View.{statement_of}
use Rattle.plan.specs.Semantics.Setting.{Buffer, allocated, block_allocated, or_else}
use Rattle.soundness.specs.declared.outline.rooms.Room.{Room}
use Rattle.soundness.specs.Outline.Rooms.{buffer_of, first_room}

pub or_else-assoc : {A : Type 0} (a b c : Option A) → or_else (or_else a b) c ≡ or_else a (or_else b c)
or_else-assoc None b c = refl
or_else-assoc (Some x) b c = refl

pub or_else-none : {A : Type 0} (a : Option A) → or_else a None ≡ a
or_else-none None = refl
or_else-none (Some x) = refl

pub first_room-push : (xs : List Room) (x : Room) (b : ℕ) → first_room (xs ++ x ∷ []) b ≡ or_else (first_room xs b) (first_room (x ∷ []) b)
first_room-push [] x b = refl
first_room-push (y ∷ xs) x b = by (y.buffer == b) (first_room-push xs x b)
  where
    by : (t : Bool) → first_room (xs ++ x ∷ []) b ≡ or_else (first_room xs b) (first_room (x ∷ []) b) →
        (if t then Some (buffer_of y) else first_room (xs ++ x ∷ []) b) ≡ or_else (if t then Some (buffer_of y) else first_room xs b) (first_room (x ∷ []) b)
    by true h = refl
    by false h = h

-- the rooms of the statements from the i-th on
abbrev pub left : List Stmt → ℕ → ℕ → Option Buffer
left all i b = block_allocated (block (list_statements (drop i all))) b

pub left_more : (all : List Stmt) (i : ℕ) (x : Stmt) (b : ℕ) → i < length all → x ≡ get_or all i x → left all i b ≡ or_else (allocated (statement_of x) b) (left all (i + 1) b)
left_more all i x b lt is =
    ap (λ (xs : List Stmt). block_allocated (block (list_statements xs)) b) (drop-cons all i x lt ∙ ap (λ (y : Stmt). y ∷ drop (suc i) all) (sym is))
    ∙ ap (λ (n : ℕ). or_else (allocated (statement_of x) b) (left all n b)) (sym (add-one i))

-- one more statement noted
pub noted_more : (all : List Stmt) (i : ℕ) (x : Stmt) (b : ℕ) (old now new whole : Option Buffer) → i < length all → x ≡ get_or all i x → new ≡ or_else now (allocated (statement_of x) b)
    → or_else now (left all i b) ≡ whole → or_else new (left all (i + 1) b) ≡ whole
noted_more all i x b old now new whole lt is noted so_far =
    ap (λ (o : Option Buffer). or_else o (left all (i + 1) b)) noted
    ∙ or_else-assoc now (allocated (statement_of x) b) (left all (i + 1) b)
    ∙ ap (or_else now) (sym (left_more all i x b lt is)) ∙ so_far
