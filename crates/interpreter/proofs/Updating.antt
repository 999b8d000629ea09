-- Registers side by side, and what a store's coordinates and operands have in them.
use Rattle.std.proofs.Common.{◌≡◌, ℕ, zero, suc, ◌+◌, ◌-◌, ◌*◌, ◌<◌, ◌≤◌, List, [], ◌∷◌, ◌++◌, map, take, drop, length, Option, Some, None, refl, sym, ap, ◌∙◌, arith, ℤ, pos, ◌+ℤ◌}
use Rattle.std.specs.Prelude.{flat_map, int_le, string_bytes, IfSome}
use Rattle.std.proofs.Math.Seq.{take-append_seam}
use Rattle.std.proofs.Math.Nat.{suc-mul}
use Rattle.std.proofs.lemmas.List.{take-append-drop, get_or_append_left}
use Rattle.tree.specs.declared.value.Value.{Value}
use Rattle.tree.specs.Meaning.{typed, applied}
use Rattle.tree.specs.Term.{Term, Binary, term_of, indices, list_terms}
use Rattle.tree.specs.declared.expr.Expr.{Expr}
use Rattle.numeric.specs.declared.ty.Ty.{Ty}
use Rattle.meaning.specs.Names.{bound}
use Rattle.plan.specs.declared.stmt.Coordinate.{Coordinate}
use Rattle.plan.specs.Plan.{Index, At, Found}
use Rattle.plan.specs.View.{coordinate_of}
use Rattle.plan.specs.Symbols.{Symbols, bind, rising, form_value}
use Rattle.plan.specs.Semantics.Actions.{fixed, index_target, stored}
use Rattle.plan.specs.Semantics.Found.{with, found, all_found}
use Rattle.plan.specs.Semantics.Memory.{Memory, read}
use Rattle.plan.specs.Semantics.Run.{Around, look, found_target}
use Rattle.interpreter.specs.Evaluation.Lanes.{number_at}
use Rattle.interpreter.specs.Pieces.{around, no_cells, setting}
use Rattle.interpreter.specs.Runs.{numbers_at, store_at, IsBut}
use Rattle.interpreter.specs.Steps.{Progress, steps}
use Rattle.interpreter.specs.Targets.{known_number, target_of}
use Rattle.interpreter.specs.Updates.{columns_at, operand_at, operation_at, place_number, place_numbers, registers_of, sets_or_none, FindsTurn, FindsUpdate, IsOwnCall}
use Rattle.interpreter.specs.declared.evaluation.lanes.Number.{Number}
use Rattle.interpreter.specs.declared.piece.Piece.{Piece}
use Rattle.interpreter.specs.declared.updates.Operand.{Operand}
use Rattle.interpreter.specs.declared.updates.Operand.TheVariants.{Known, Own}
use Rattle.interpreter.specs.declared.updates.Operation.{Operation}
use Rattle.interpreter.specs.declared.updates.Update.{Update}
use Rattle.interpreter.proofs.InRegisters.{number_drop}
use Rattle.interpreter.proofs.Running.{Comes}
use Rattle.interpreter.proofs.Storing.{sets, store_steps}
use Rattle.interpreter.proofs.StoreRuns.{first_turn}

-- ---- the numbers of several registers at a turn

-- they lie in the first so many numbers
pub columns_same : (n w k : ℕ) (old new : List Number) → k < n → ((j : ℕ) → j < w * n → number_at new j ≡ number_at old j) → columns_at n w new k ≡ columns_at n w old k
columns_same n zero k old new lt h = refl
columns_same n (suc w) k old new lt h =
    let more : suc w * n ≡ w * n + n = suc-mul w n in
    let here = h k (omega (arith, more)) in
    let later = columns_same n w k (drop n old) (drop n new) lt (λ j less. number_drop new n j ∙ h (n + j) (omega (arith, more)) ∙ sym (number_drop old n j)) in
    λ i. here i ∷ later i

-- and the first registers have the first of them
pub columns_take : (n s w k : ℕ) (zs : List Number) → s ≤ w → take s (columns_at n w zs k) ≡ columns_at n s zs k
columns_take n zero w k zs h = refl
columns_take n (suc s) zero k zs h = absurd (omega arith)
columns_take n (suc s) (suc w) k zs h = ap (λ (ys : List ℤ). number_at zs k ∷ ys) (columns_take n s w k (drop n zs) (omega arith))

-- and there are as many
pub columns_length : (n w k : ℕ) (zs : List Number) → length (columns_at n w zs k) ≡ w
columns_length n zero k zs = refl
columns_length n (suc w) k zs = ap (λ (l : ℕ). suc l) (columns_length n w k (drop n zs))

-- an operand's registers are the first ones
pub operand_same : (n k : ℕ) (o : Operand) (old new : List Number) (m : Memory Value) (b : ℕ) → k < n → ((j : ℕ) → j < registers_of o * n → number_at new j ≡ number_at old j) →
    operand_at n o new m b k ≡ operand_at n o old m b k
operand_same n k (Known t) old new m b lt h = ap (λ (z : ℤ). Some (record { ty = t; number = z })) (h k (omega arith))
operand_same n k (Own w) old new m b lt h = ap (λ (p : List ℤ). read m b p) (columns_same n w k old new lt h)

-- ---- the numbers of a store's coordinates

-- what is known of a store's point, and of its other coordinates
pub record IsTargets (o : Option (List ℤ)) (n : ℕ) (ys known : List ℤ) : Type 0 where
  pub point : o ≡ Some (take n ys)
  pub others : drop n ys ≡ drop n known

-- with a number in front
pub cons_front : (z : ℤ) (o : Option (List ℤ)) (ys : List ℤ) (P : Type 0) → with o (λ l. Some (z ∷ l)) ≡ Some ys → ((l : List ℤ) → o ≡ Some l → z ∷ l ≡ ys → P) → P
cons_front z None ys P e f = absurd (cc)
cons_front z (Some l) ys P e f = let is : z ∷ l ≡ ys = cc in f l refl is

known_all : (V : List ℕ → ℤ) (L : List ℕ → List ℤ → Option Value) (s : Symbols) (cs : List Coordinate) (ys : List ℤ) → place_numbers V L 0 cs (map (known_number s) cs) ≡ Some ys → ys ≡ map (known_number s) cs
known_all V L s [] ys h = let is : [] ≡ ys = cc in sym is
known_all V L s (c ∷ cs) ys h = by (known_all V L s cs) (coordinate_of c).index h
  where
    rest : ((l : List ℤ) → place_numbers V L 0 cs (map (known_number s) cs) ≡ Some l → l ≡ map (known_number s) cs) →
        (z : ℤ) → with (place_numbers V L (0 - 1) cs (map (known_number s) cs)) (λ l. Some (z ∷ l)) ≡ Some ys → ys ≡ z ∷ map (known_number s) cs
    rest all z e = cons_front z (place_numbers V L (0 - 1) cs (map (known_number s) cs)) ys (ys ≡ z ∷ map (known_number s) cs) e
        (λ l is front. sym front ∙ ap (λ (t : List ℤ). z ∷ t) (all l is))

    by : ((l : List ℤ) → place_numbers V L 0 cs (map (known_number s) cs) ≡ Some l → l ≡ map (known_number s) cs) →
        (x : Index) → with (place_number V L 0 x (fixed (index_target s x))) (λ y. with (place_numbers V L (0 - 1) cs (map (known_number s) cs)) (λ l. Some (y ∷ l))) ≡ Some ys →
        ys ≡ fixed (index_target s x) ∷ map (known_number s) cs
    by all (At l) e = rest all (form_value l s) e
    by all (Found t) e = rest all (pos 0) e

pub targets_are : (A : Around) (V : List ℕ → ℤ) (s : Symbols) (m : Memory Value) (cs : List Coordinate) (n : ℕ) (ys : List ℤ) →
    place_numbers V (look A m) n cs (map (known_number s) cs) ≡ Some ys → IsTargets (found_target A V (map (target_of s) (take n cs)) m) n ys (map (known_number s) cs)
targets_are A V s m [] zero ys h = let is : [] ≡ ys = cc in record { point = refl; others = sym is }
targets_are A V s m [] (suc n) ys h = let is : [] ≡ ys = cc in record { point = ap (λ (l : List ℤ). Some (take (suc n) l)) is; others = ap (drop (suc n)) (sym is) }
targets_are A V s m (c ∷ cs) zero ys h = record { point = refl; others = known_all V (look A m) s (c ∷ cs) ys h }
targets_are A V s m (c ∷ cs) (suc n) ys h = by (targets_are A V s m cs n) (coordinate_of c).index h
  where
    less : suc n - 1 ≡ n
    less = omega arith

    rest : ((l : List ℤ) → place_numbers V (look A m) n cs (map (known_number s) cs) ≡ Some l → IsTargets (found_target A V (map (target_of s) (take n cs)) m) n l (map (known_number s) cs)) →
        (z w : ℤ) → with (place_numbers V (look A m) (suc n - 1) cs (map (known_number s) cs)) (λ l. Some (z ∷ l)) ≡ Some ys →
        IsTargets (with (found_target A V (map (target_of s) (take n cs)) m) (λ l. Some (z ∷ l))) (suc n) ys (w ∷ map (known_number s) cs)
    rest all z w e = cons_front z (place_numbers V (look A m) (suc n - 1) cs (map (known_number s) cs)) ys
        (IsTargets (with (found_target A V (map (target_of s) (take n cs)) m) (λ l. Some (z ∷ l))) (suc n) ys (w ∷ map (known_number s) cs)) e
        (λ l is front.
        let later = all l (ap (λ (p : ℕ). place_numbers V (look A m) p cs (map (known_number s) cs)) (sym less) ∙ is) in
        record {
          point = ap (λ (o : Option (List ℤ)). with o (λ t. Some (z ∷ t))) later.point ∙ ap (λ (t : List ℤ). Some (take (suc n) t)) front;
          others = ap (drop (suc n)) (sym front) ∙ later.others;
        })

    found_one : ((l : List ℤ) → place_numbers V (look A m) n cs (map (known_number s) cs) ≡ Some l → IsTargets (found_target A V (map (target_of s) (take n cs)) m) n l (map (known_number s) cs)) →
        (o : Option Value) → with (with o (λ v. Some v.number)) (λ y. with (place_numbers V (look A m) (suc n - 1) cs (map (known_number s) cs)) (λ l. Some (y ∷ l))) ≡ Some ys →
        IsTargets (with o (λ v. with (found_target A V (map (target_of s) (take n cs)) m) (λ l. Some (v.number ∷ l)))) (suc n) ys (pos 0 ∷ map (known_number s) cs)
    found_one all None e = absurd (cc)
    found_one all (Some v) e = rest all v.number (pos 0) e

    by : ((l : List ℤ) → place_numbers V (look A m) n cs (map (known_number s) cs) ≡ Some l → IsTargets (found_target A V (map (target_of s) (take n cs)) m) n l (map (known_number s) cs)) →
        (x : Index) → with (place_number V (look A m) (suc n) x (fixed (index_target s x))) (λ y. with (place_numbers V (look A m) (suc n - 1) cs (map (known_number s) cs)) (λ l. Some (y ∷ l))) ≡ Some ys →
        IsTargets (found_target A V (index_target s x ∷ map (target_of s) (take n cs)) m) (suc n) ys (fixed (index_target s x) ∷ map (known_number s) cs)
    by all (At l) e = rest all (form_value l s) (form_value l s) e
    by all (Found t) e = found_one all (found V (look A m) t) e

-- ---- stores of updates

-- a store whose coordinates have these numbers
pub numbered_stores : (x : Piece) (cell : List ℕ → List ℤ → Value) (b d n : ℕ) (cs : List Coordinate) (e : Term) (s : Symbols) (p : Progress) (ys : List ℤ) →
    n ≡ (setting x).dimensions b → place_numbers (bound (map (λ c. string_bytes c.variable) cs) (map (known_number s) cs)) (look (around x no_cells) p.memory) n cs (map (known_number s) cs) ≡ Some ys →
    steps (around x cell) (stored (setting x) b d (map coordinate_of cs) e s ∷ []) p ≡ with (found (bound (map (λ c. string_bytes c.variable) cs) ys) (look (around x no_cells) p.memory) e) (sets b p (take n ys))
numbered_stores x cell b d n cs e s p ys size h =
    let ns = map (known_number s) cs in
    let names : List (List ℕ) = map (λ c. string_bytes c.variable) cs in
    let find : List ℤ → Option Value = λ l. found (bound names l) (look (around x no_cells) p.memory) e in
    let go : List ℤ → Option Progress = λ q. with (find (q ++ drop n ns)) (sets b p q) in
    let is = targets_are (around x no_cells) (bound names ns) s p.memory cs n ys h in
    store_steps x cell b d n cs (take n cs) ns e s p size refl refl
    ∙ ap (λ (o : Option (List ℤ)). with o go) is.point
    ∙ ap (λ (l : List ℤ). with (find (take n ys ++ l)) (sets b p (take n ys))) (sym is.others)
    ∙ ap (λ (l : List ℤ). with (find l) (sets b p (take n ys))) (take-append-drop n ys)

-- where registers hold what is known of an update, its first turn does the operation and sets its value
pub first_update : (x : Piece) (cell : List ℕ → List ℤ → Value) (b d n i size : ℕ) (cs : List Coordinate) (e : Term) (s : Symbols) (j : ℕ) (begin low : ℤ) (memory : Memory Value) (u : Update) (zs : List Number)
    (p : Progress) (whole : Option Progress) →
    size ≡ (setting x).dimensions b → FindsUpdate x b size cs e s j begin low memory n u zs → IsBut b memory p.memory → i < n →
    Comes (around x cell) whole (flat_map (store_at x b cs e s j begin d) (rising (low +ℤ pos i) (n - i))) p →
    whole ≡ with (with (operation_at n u.operation (drop u.start zs) p.memory b i) (sets_or_none b p (columns_at n size zs i)))
    (steps (around x cell) (flat_map (store_at x b cs e s j begin d) (rising (low +ℤ pos (i + 1)) (n - (i + 1)))))
first_update x cell b d n i size cs e s j begin low memory u zs p whole is finds but lt h =
    let A = around x cell in
    let f = store_at x b cs e s j begin d in
    let z = low +ℤ pos i in
    let now = bind s j z (int_le z begin) in
    let t : FindsTurn _ _ b size n cs e _ u zs p.memory i = finds.turns p.memory but i lt in
    let go : Progress → Option Progress = steps A (flat_map f (rising (low +ℤ pos (i + 1)) (n - (i + 1)))) in
    first_turn A f low n i p whole lt h
    ∙ ap (λ (o : Option Progress). with o go) (numbered_stores x cell b d size cs e now p t.numbers is t.place)
    ∙ ap (λ (o : Option Value). with (with o (sets b p (take size t.numbers))) go) t.value
    ∙ ap (λ (q : List ℤ). with (with (operation_at n u.operation (drop u.start zs) p.memory b i) (sets b p q)) go) t.point

-- ---- registers that are filled one after another

-- one column more in front of others
pub column_front : (n w k : ℕ) (zs : List Number) (z : ℤ) (l : List ℤ) → z ≡ number_at zs k → l ≡ columns_at n w (drop n zs) k → z ∷ l ≡ columns_at n (suc w) zs k
column_front n w k zs z l e f = λ i. e i ∷ f i

pub coordinates_front : (V : List ℕ → ℤ) (L : List ℕ → List ℤ → Option Value) (q n k : ℕ) (c : Coordinate) (cs : List Coordinate) (z : ℤ) (zs : List ℤ) (mid new : List Number) →
    place_number V L (suc q) (coordinate_of c).index z ≡ Some (number_at mid k) → place_numbers V L q cs zs ≡ Some (columns_at n q (drop n new) k ++ drop q zs) → number_at new k ≡ number_at mid k →
    place_numbers V L (suc q) (c ∷ cs) (z ∷ zs) ≡ Some (columns_at n (suc q) new k ++ drop (suc q) (z ∷ zs))
coordinates_front V L q n k c cs z zs mid new here later same =
    let less : suc q - 1 ≡ q = omega arith in
    ap (λ (o : Option ℤ). with o (λ y. with (place_numbers V L (suc q - 1) cs zs) (λ l. Some (y ∷ l)))) here
    ∙ ap (λ (r : ℕ). with (place_numbers V L r cs zs) (λ l. Some (number_at mid k ∷ l))) less
    ∙ ap (λ (o : Option (List ℤ)). with o (λ l. Some (number_at mid k ∷ l))) later
    ∙ ap (λ (y : ℤ). Some (y ∷ (columns_at n q (drop n new) k ++ drop q zs))) (sym same)

-- as many numbers at each turn as at the first
pub numbers_length : (xs ys : List ℤ) (k : ℕ) → length (numbers_at xs ys k) ≡ length xs
numbers_length [] ys k = refl
numbers_length (x ∷ xs) [] k = ap (λ (l : ℕ). suc l) (numbers_length xs [] k)
numbers_length (x ∷ xs) (y ∷ ys) k = ap (λ (l : ℕ). suc l) (numbers_length xs ys k)

-- where no coordinate is one of the point, forms tell all of them
pub known_first : (V : List ℕ → ℤ) (L : List ℕ → List ℤ → Option Value) (cs : List Coordinate) (zs : List ℤ) → length zs ≡ length cs → place_numbers V L 0 cs zs ≡ Some zs
known_first V L [] [] h = refl
known_first V L [] (z ∷ zs) h = absurd (omega (arith, h))
known_first V L (c ∷ cs) [] h = absurd (omega (arith, h))
known_first V L (c ∷ cs) (z ∷ zs) h = by (coordinate_of c).index (known_first V L cs zs (omega (arith, h)))
  where
    by : (x : Index) → place_numbers V L 0 cs zs ≡ Some zs → with (place_number V L 0 x z) (λ y. with (place_numbers V L (0 - 1) cs zs) (λ l. Some (y ∷ l))) ≡ Some (z ∷ zs)
    by (At l) e = ap (λ (o : Option (List ℤ)). with o (λ l. Some (z ∷ l))) e
    by (Found t) e = ap (λ (o : Option (List ℤ)). with o (λ l. Some (z ∷ l))) e

-- ---- memories that differ in one buffer at most

pub but_then : (b : ℕ) (m n o : Memory Value) → IsBut b m n → IsBut b n o → IsBut b m o
but_then b m n o h g = record { rooms = λ c other. g.rooms c other ∙ h.rooms c other; held = λ c other. g.held c other ∙ h.held c other }

-- ---- operations

pub front_same : (mine r s : List Number) (j : ℕ) → j < length mine → number_at (mine ++ r) j ≡ number_at (mine ++ s) j
front_same mine r s j lt =
    ap (λ (x : Number). x.value) (get_or_append_left mine r (record { value = pos 0 }) j lt ∙ sym (get_or_append_left mine s (record { value = pos 0 }) j lt))

pub operation_found : (V : List ℕ → ℤ) (L : List ℕ → List ℤ → Option Value) (n k : ℕ) (a c : Term) (o : Operation) (mid new : List Number) (m : Memory Value) (b : ℕ) →
    found V L a ≡ operand_at n o.left mid m b k → found V L c ≡ operand_at n o.right (drop o.width new) m b k → k < n → ((j : ℕ) → j < registers_of o.left * n → number_at new j ≡ number_at mid j) →
    found V L (Binary o.op a c) ≡ operation_at n o new m b k
operation_found V L n k a c o mid new m b first second lt same =
    (λ i. with (first i) (λ x. with (second i) (λ y. Some (applied o.op x y))))
    ∙ ap (λ (x : Option Value). with x (λ x. with (operand_at n o.right (drop o.width new) m b k) (λ y. Some (applied o.op x y)))) (sym (operand_same n k o.left mid new m b lt same))

-- a call of the own buffer finds what that has at the numbers of its registers
pub own_found : (x : Piece) (b : ℕ) (V : List ℕ → ℤ) (m : Memory Value) (e : Term) (at : List Expr) (n k w : ℕ) (zs : List Number) → IsOwnCall x b e at → w ≡ length at →
    all_found V (look (around x no_cells) m) (indices (list_terms at)) ≡ Some (columns_at n w zs k) → found V (look (around x no_cells) m) e ≡ read m b (columns_at n w zs k)
own_found x b V m e at n k w zs own same h = own V m ∙ ap (λ (o : Option (List ℤ)). with o (λ ys. read m b ys)) h

-- one index more in front of others
pub indices_front : (V : List ℕ → ℤ) (L : List ℕ → List ℤ → Option Value) (n k : ℕ) (e : Expr) (es : List Expr) (t : Ty) (mid new : List Number) →
    found V L (term_of e) ≡ Some (typed t (number_at mid k)) → all_found V L (indices (list_terms es)) ≡ Some (columns_at n (length es) (drop n new) k) → number_at new k ≡ number_at mid k →
    all_found V L (indices (list_terms (e ∷ es))) ≡ Some (columns_at n (length (e ∷ es)) new k)
indices_front V L n k e es t mid new first later same =
    ap (λ (o : Option Value). with o (λ x. with (all_found V L (indices (list_terms es))) (λ zs. Some (x.number ∷ zs)))) first
    ∙ ap (λ (o : Option (List ℤ)). with o (λ zs. Some (number_at mid k ∷ zs))) later
    ∙ ap (λ (y : ℤ). Some (y ∷ columns_at n (length es) (drop n new) k)) (sym same)

pub front_number : (new rest : List Number) (k : ℕ) → k < length new → number_at (new ++ rest) k ≡ number_at new k
front_number new rest k lt = ap (λ (x : Number). x.value) (get_or_append_left new rest (record { value = pos 0 }) k lt)

-- a register that was written back whole
pub back_whole : (n : ℕ) (new rest : List Number) → length new ≡ n → take n (new ++ rest) ≡ new
back_whole n new rest h = ap (λ (l : ℕ). take l (new ++ rest)) (sym h) ∙ take-append_seam new rest

-- what three facts say of something that may be there
pub three_some : {X : Type 0} (o : Option X) (P Q R S : X → Type 0) → ((x : X) → P x → Q x → R x → S x) → IfSome o P → IfSome o Q → IfSome o R → IfSome o S
three_some None P Q R S f p q r = p
three_some (Some x) P Q R S f p q r = f x p q r
