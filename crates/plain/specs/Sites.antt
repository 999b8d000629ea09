-- The calls that stand in an expression, those of the input left out.
use Rattle.std.specs.Prelude.{ℕ, List, [], ◌∷◌, ◌++◌, Bool, true, false, not, ℤ}
use Rattle.std.specs.List.{filter}
use Rattle.tree.specs.declared.value.Value.{Value}
use Rattle.tree.specs.Term.{Term, Number, Name, Call, Minus, Binary, Clamp, Cast, Choice, Terms, End, More, Test, Compares, Fails, Both, Either, indices, list_terms}
use Rattle.tree.specs.Meaning.{numbers_of}
use Rattle.tree.specs.Uses.{Asked, asked, calls_made_by_all}
use Rattle.meaning.specs.Names.{same_name}
use Rattle.plain.specs.declared.sites.Site.{Site as Stored}

-- what is called, and the expressions of the indices
pub record Site : Type 0 where
  pub name : List ℕ
  pub at : Terms

abbrev pub site_of : Stored → Site
site_of s = record { name = s.name.now; at = indices (list_terms s.at.now) }

-- whether the name is another than the input's
abbrev pub is_other : List ℕ → List ℕ → Bool
is_other input name = not (same_name input name)

-- the call alone, where it is none of the input
abbrev pub own_site : List ℕ → Site → List Site
own_site input s = elim (is_other input s.name) [ true ↦ s ∷ [] | false ↦ [] ]

-- in the order of the text, a call after those in its indices
module _ (input : List ℕ) where
  abbrev mutual
    pub sites : Term → List Site
    sites (Number t n) = []
    sites (Name name) = []
    sites (Call name at) = sites_of_all at ++ own_site input (record { name = name; at = at })
    sites (Minus a) = sites a
    sites (Binary op a b) = sites a ++ sites b
    sites (Clamp a l h) = sites a ++ sites l ++ sites h
    sites (Cast t a) = sites a
    sites (Choice c a b) = sites_of_test c ++ sites a ++ sites b

    pub sites_of_test : Test → List Site
    sites_of_test (Compares by a b) = sites a ++ sites b
    sites_of_test (Fails c) = sites_of_test c
    sites_of_test (Both c d) = sites_of_test c ++ sites_of_test d
    sites_of_test (Either c d) = sites_of_test c ++ sites_of_test d

    pub sites_of_all : Terms → List Site
    sites_of_all End = []
    sites_of_all (More a rest) = sites a ++ sites_of_all rest

-- the call that a site makes
module _ (variables : List ℕ → ℤ) (answers : List ℕ → List ℤ → Value) where
  abbrev pub asked_at : Site → Asked
  asked_at s = asked s.name (numbers_of variables answers s.at)

  -- the calls that expressions make, those of the input left out
  abbrev pub calls_asked : List ℕ → Terms → List Asked
  calls_asked input at = filter (λ c. is_other input c.name) (calls_made_by_all variables answers at)
