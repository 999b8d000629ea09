-- Calls, read at the list of a `Vec`.
use Rattle.std.proofs.Common.{◌≡◌, ℕ, suc, ◌+◌, List, [], ◌∷◌, length, Bool, true, false, refl, sym, ap, ◌∙◌, arith}
use Rattle.std.specs.Prelude.{◌&&◌, string_bytes}
use Rattle.std.specs.Global.{Vec, Global}
use Rattle.std.specs.declared.string.String.{String}
use Rattle.tree.specs.declared.token.span.Span.{Span}
use Rattle.tree.specs.declared.expr.Expr.{Expr}
use Rattle.tree.specs.declared.expr.Cond.TheViews.{Call}
use Rattle.tree.specs.Term.{Term, term_of, list_terms, indices}
use Rattle.tree.specs.Typing.{index_count}
use Rattle.tree.specs.Substitution.{all_with_calls}
use Rattle.tree.proofs.Rows.{term_of-call}
use Rattle.meaning.specs.Names.{same_name}
use Rattle.soundness.specs.Origins.{Outline}
use Rattle.validation.specs.Stored.Alike.{same_term, same_terms}
use Rattle.validation.specs.Stored.Stored.{is_known, are_known, name_read, call_read, as_read}

count_is : (xs : List Expr) → index_count (indices (list_terms xs)) ≡ length xs
count_is [] = refl
count_is (x ∷ xs) = ap (λ n. 1 + n) (count_is xs) ∙ omega arith

-- the names in a call are known where its own is and those in its indices are
pub known_call : (v : List ℕ → Bool) (q : List ℕ → ℕ → Bool) (e : Expr) (name : String Global) (at : Vec Expr) (s : Span) (n : ℕ) (xs : List Expr) (b k : Bool)
    → e ≡ Call name at s → n ≡ length at.items → b ≡ q (string_bytes name) n → xs ≡ at.items → k ≡ are_known v q (indices (list_terms xs))
    → (b && k) ≡ is_known v q (term_of e)
known_call v q e name at s n xs b k is long named same inner =
    (λ i. named i && inner i)
    ∙ ap (λ (ys : List Expr). q (string_bytes name) n && are_known v q (indices (list_terms ys))) same
    ∙ ap (λ (m : ℕ). q (string_bytes name) m && are_known v q (indices (list_terms at.items))) (long ∙ sym (count_is at.items))
    ∙ ap (λ (t : Term). is_known v q t) (sym (term_of-call name at s))
    ∙ ap (λ (x : Expr). is_known v q (term_of x)) (sym is)

-- a call is read as another where the names and the indices are
pub read_call : (o : Outline) (e d : Expr) (name known : String Global) (at by : Vec Expr) (s r : Span) (xs ys : List Expr) (b k : Bool)
    → e ≡ Call name at s → d ≡ Call known by r → b ≡ same_name (name_read o (o.source (string_bytes name)) (string_bytes name)) (string_bytes known)
    → xs ≡ at.items → ys ≡ by.items → k ≡ same_terms (all_with_calls (call_read o) (indices (list_terms xs))) (indices (list_terms ys))
    → (b && k) ≡ same_term (as_read o (term_of e)) (term_of d)
read_call o e d name known at by s r xs ys b k is that named one two inner =
    (λ i. named i && inner i)
    ∙ (λ i. same_name (name_read o (o.source (string_bytes name)) (string_bytes name)) (string_bytes known) && same_terms (all_with_calls (call_read o) (indices (list_terms (one i)))) (indices (list_terms (two i))))
    ∙ (λ i. same_term (as_read o (sym (term_of-call name at s) i)) (sym (term_of-call known by r) i))
    ∙ (λ i. same_term (as_read o (term_of (sym is i))) (term_of (sym that i)))

and_none : (b : Bool) → false ≡ (b && false)
and_none true = refl
and_none false = refl

-- rows of different lengths are not alike
pub uneven : (o : Outline) (xs ys : List Expr) → ¬ (length xs ≡ length ys) → false ≡ same_terms (all_with_calls (call_read o) (indices (list_terms xs))) (indices (list_terms ys))
uneven o [] [] h = absurd (h refl)
uneven o [] (y ∷ ys) h = refl
uneven o (x ∷ xs) [] h = refl
uneven o (x ∷ xs) (y ∷ ys) h =
    and_none (same_term (as_read o (term_of x)) (term_of y)) ∙ ap (λ (k : Bool). same_term (as_read o (term_of x)) (term_of y) && k) (uneven o xs ys (λ e. h (ap suc e)))
