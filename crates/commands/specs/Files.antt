-- Files by their names, where it is known what they hold.
use Rattle.std.specs.Prelude.{◌≡◌, ◌≢◌, ℕ, List, Option, None, Some, ⊤}

-- the bytes of each file that there is, by its name; nothing where they are not known
abbrev pub Contents : Type 0
Contents = Option (List ℕ → Option (List ℕ))

-- there is a file of this name, and these are its bytes
abbrev pub Holds : Contents → List ℕ → List ℕ → Type 0
Holds None name bytes = ⊤
Holds (Some at) name bytes = at name ≡ Some bytes

-- all files are as before
abbrev pub SameFiles : Contents → Contents → Type 0
SameFiles None new = ⊤
SameFiles (Some at) None = ⊥
SameFiles (Some at) (Some now) = (name : List ℕ) → now name ≡ at name

-- all files but the one of this name are as before
abbrev pub SameOthers : Contents → Contents → List ℕ → Type 0
SameOthers None new name = ⊤
SameOthers (Some at) None name = ⊥
SameOthers (Some at) (Some now) name = (other : List ℕ) → other ≢ name → now other ≡ at other

-- the file of this name has these bytes, and all others are as before
abbrev pub Puts : Contents → Contents → List ℕ → List ℕ → Type 0
Puts old new name bytes = Holds new name bytes × SameOthers old new name

-- the file of this name has bytes of which this holds, and all others are as before
abbrev pub IsPut : Contents → Contents → List ℕ → (List ℕ → Type 0) → Type 0
IsPut old new name Is = (bytes : List ℕ) × Is bytes × Puts old new name bytes
