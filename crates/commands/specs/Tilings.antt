-- What the command that cuts an algorithm into tiles does to the files.
use Rattle.std.specs.Prelude.{◌≡◌, ◌⊎◌, ◌<◌, ℕ, List, ◌++◌, Option, None, Some, codes, length, map, slice_get, unsigned_abs, decimal, string_bytes, ⊤}
use Rattle.std.specs.List.{flat_map, range_with_len, AllZip}
use Rattle.clap.specs.Words.{Text}
use Rattle.meaning.specs.Algorithm.{Algorithm}
use Rattle.crop.specs.Cutting.{extent_of}
use Rattle.crop.specs.Inside.{IsInside}
use Rattle.crop.specs.Mosaic.{IsMosaic}
use Rattle.crop.specs.Tiling.{rect_at, tile_count, tiling_of}
use Rattle.crop.specs.declared.cropping.Rect.{Rect}
use Rattle.crop.specs.declared.cut.Stretch.{Stretch}
use Rattle.crop.specs.declared.tiling.Tiling.{Tiling}
use Rattle.commands.specs.declared.pipeline.fault.Fault.{Fault}
use Rattle.commands.specs.declared.pipeline.fault.Fault.TheVariants.{Outside}
use Rattle.commands.specs.declared.crop_command.Part.{Part}
use Rattle.commands.specs.declared.crop_command.Tile.{Tile}
use Rattle.commands.specs.declared.tiles_command.Tiles.{Tiles}
use Rattle.commands.specs.Asked.{AskedTiles}
use Rattle.commands.specs.Crops.{IsPastLimit, IsReason, IsSceneFile, IsTileText}
use Rattle.commands.specs.Files.{Contents, Holds, SameFiles}
use Rattle.commands.specs.Pictures.{IsOfDevice}

-- ---- names

-- DIR/list
abbrev pub list_name : Text → Text
list_name folder = folder ++ codes "/list"

-- DIR/K.alg
abbrev pub kind_name : Text → ℕ → Text
kind_name folder kind = folder ++ (codes "/" ++ (decimal kind ++ codes ".alg"))

-- ---- the list

-- a tile: its rectangle, the part of the input that it reads, and the number of its text
pub record Line : Type 0 where
  pub rect : Rect
  pub part : List Stretch
  pub kind : ℕ

-- where a stretch begins, and how many numbers it has; 0 and 1 where there is none
abbrev pub place_told : Option Stretch → ℕ
place_told None = 0
place_told (Some e) = unsigned_abs e.low

abbrev pub extent_told : Option Stretch → ℕ
extent_told None = 1
extent_told (Some e) = extent_of e

-- the part that stretches are, channels aside
abbrev pub part_told : List Stretch → Part
part_told es = record {
  x = place_told (slice_get es 0);
  y = place_told (slice_get es 1);
  width = extent_told (slice_get es 0);
  height = extent_told (slice_get es 1);
}

-- a tile of `a` at the rectangle: its text and its part
pub record IsTileAt (a : Algorithm) (rect : Rect) (tile : Tile) : Type 0 where
  pub part : List Stretch
  pub told : tile.part ≡ part_told part
  pub text : IsTileText a rect part (string_bytes tile.text)

-- X Y W H X Y W H K
abbrev pub line_told : Rect → Part → ℕ → List ℕ
line_told rect part kind =
    (decimal rect.x ++ codes " ") ++ (decimal rect.y ++ codes " ") ++ (decimal rect.width ++ codes " ") ++ (decimal rect.height ++ codes " ")
    ++ (decimal part.x ++ codes " ") ++ (decimal part.y ++ codes " ") ++ (decimal part.width ++ codes " ") ++ (decimal part.height ++ codes " ")
    ++ (decimal kind ++ codes "\n")

abbrev pub line_text : Line → List ℕ
line_text t = line_told t.rect (part_told t.part) t.kind

abbrev pub list_text : List Line → List ℕ
list_text lines = flat_map line_text lines

-- the line is that of a tile whose text is among the kinds, at its number
pub record IsLine (a : Algorithm) (kinds : List (List ℕ)) (rect : Rect) (line : Line) : Type 0 where
  pub text : List ℕ
  pub same : line.rect ≡ rect
  pub kind : slice_get kinds line.kind ≡ Some text
  pub tile : IsTileText a rect line.part text

-- the lines are those of the first tiles of a tiling
abbrev pub AreLines : Algorithm → Tiling → ℕ → List (List ℕ) → List Line → Type 0
AreLines a t n kinds lines = AllZip (IsLine a kinds) (map (rect_at t) (range_with_len 0 n)) lines

-- the texts of the kinds
abbrev pub kinds_of : Tiles → List (List ℕ)
kinds_of tiles = map string_bytes tiles.kinds.keys

-- kinds that stay at their numbers
abbrev pub KeepsKinds : List (List ℕ) → List (List ℕ) → Type 0
KeepsKinds old new = (kind : ℕ) (text : List ℕ) → slice_get old kind ≡ Some text → slice_get new kind ≡ Some text

-- a tile was added: its line behind the others, and its text to the kinds, if it was not among them
pub record IsAdded (a : Algorithm) (rect : Rect) (old new : Tiles) : Type 0 where
  pub line : Line
  pub is_line : IsLine a (kinds_of new) rect line
  pub list : string_bytes new.list ≡ string_bytes old.list ++ line_text line
  pub kinds : KeepsKinds (kinds_of old) (kinds_of new)

-- they are the first tiles of a tiling
pub record AreFirst (a : Algorithm) (t : Tiling) (n : ℕ) (tiles : Tiles) : Type 0 where
  pub lines : List Line
  pub list : string_bytes tiles.list ≡ list_text lines
  pub are_lines : AreLines a t n (kinds_of tiles) lines

-- all tiles lie in the output
abbrev pub AllInside : Algorithm → Tiling → Type 0
AllInside a t = (number : ℕ) → number < tile_count t → IsInside a.output_extents (rect_at t number)

-- all of them
abbrev pub AreTiles : Algorithm → Tiling → Tiles → Type 0
AreTiles a t tiles = AreFirst a t (tile_count t) tiles

-- all of those of tiles of these sides; the tiles' pictures, put together, are the picture
pub record IsCutInto (a : Algorithm) (width height : ℕ) (tiles : Tiles) : Type 0 where
  pub tiling : Tiling
  pub is_tiling : tiling_of a.output_extents width height ≡ Some tiling
  pub mosaic : IsMosaic a tiling
  pub all : AreTiles a tiling tiles

-- the kinds and lines are those of the tiles of the algorithm, of the sides that are asked for
pub record IsCutBy (a : AskedTiles) (x : Algorithm) (kinds : List (List ℕ)) (lines : List Line) : Type 0 where
  pub tiling : Tiling
  pub is_tiling : tiling_of x.output_extents a.width a.height ≡ Some tiling
  pub mosaic : IsMosaic x tiling
  pub are_lines : AreLines x tiling (tile_count tiling) kinds lines

-- ---- what is done

-- the kinds and lines are those of the tiles of the file's algorithm; the tiles' pictures, put together, are its picture
pub record IsCutUp (files : Contents) (a : AskedTiles) (kinds : List (List ℕ)) (lines : List Line) : Type 0 where
  pub algorithm : Algorithm
  pub tiling : Tiling
  pub file : IsSceneFile files a.algorithm algorithm
  pub is_tiling : tiling_of algorithm.output_extents a.width a.height ≡ Some tiling
  pub mosaic : IsMosaic algorithm tiling
  pub are_lines : AreLines algorithm tiling (tile_count tiling) kinds lines

-- the name of a file that is written
abbrev pub IsTileName : Text → ℕ → Text → Type 0
IsTileName folder n name = (name ≡ list_name folder) ⊎ ((kind : ℕ) × (kind < n) × (name ≡ kind_name folder kind))

-- all files but those of the tiles are as before
abbrev pub SameBeside : Contents → Contents → Text → ℕ → Type 0
SameBeside None new folder n = ⊤
SameBeside (Some at) None folder n = ⊥
SameBeside (Some at) (Some now) folder n = (other : List ℕ) → (IsTileName folder n other → ⊥) → now other ≡ at other

-- each of the first kinds stands in its file, where it was known what files hold
abbrev pub HoldsFirst : Contents → Contents → Text → List (List ℕ) → ℕ → Type 0
HoldsFirst None new folder kinds n = ⊤
HoldsFirst (Some at) new folder kinds n = (kind : ℕ) (text : List ℕ) → kind < n → slice_get kinds kind ≡ Some text → Holds new (kind_name folder kind) text

-- and each of all
abbrev pub HoldsKinds : Contents → Contents → Text → List (List ℕ) → Type 0
HoldsKinds old new folder kinds = HoldsFirst old new folder kinds (length kinds)

-- the kinds were put, and nothing else
abbrev pub ArePut : Contents → Contents → Text → List (List ℕ) → Type 0
ArePut old new folder kinds = HoldsKinds old new folder kinds × SameBeside old new folder (length kinds)

-- the kinds and the list were put, and nothing else
pub record AllPut (old new : Contents) (folder : Text) (kinds : List (List ℕ)) (list : List ℕ) : Type 0 where
  pub held : Holds new (list_name folder) list
  pub texts : HoldsKinds old new folder kinds
  pub others : SameBeside old new folder (length kinds)

-- the list and the kinds were put, and nothing else
pub record IsDone (old new : Contents) (a : AskedTiles) : Type 0 where
  pub kinds : List (List ℕ)
  pub lines : List Line
  pub cut : IsCutUp old a kinds lines
  pub put : AllPut old new a.folder kinds (list_text lines)

-- ---- why something is refused

-- why there are none: want of memory or C2, and C1 only where a side is 0 or longer than the output's
abbrev pub IsUntiled : Algorithm → ℕ → ℕ → Fault → Type 0
IsUntiled a width height fault = IsPastLimit fault ⊎ ((fault ≡ Outside) × (tiling_of a.output_extents width height ≡ None))

-- the tiles were made, and a file could not be put
pub record IsNotPut (old new : Contents) (a : AskedTiles) (fault : Fault) : Type 0 where
  pub kinds : List (List ℕ)
  pub lines : List Line
  pub cut : IsCutUp old a kinds lines
  pub device : IsOfDevice fault
  pub others : SameBeside old new a.folder (length kinds)

-- nothing was put, for a reason; or all tiles had been made, and all files but theirs are as before
abbrev pub IsRefused : Contents → Contents → AskedTiles → Fault → Type 0
IsRefused old new a fault = (SameFiles old new × IsReason old a.algorithm (λ x. IsUntiled x a.width a.height fault) fault) ⊎ IsNotPut old new a fault

-- ---- of an algorithm that was read

-- the list and the kinds of its tiles were put, and nothing else
abbrev pub IsCutPut : Contents → Contents → AskedTiles → Algorithm → Type 0
IsCutPut old new a x = (kinds : List (List ℕ)) × (lines : List Line) × IsCutBy a x kinds lines × AllPut old new a.folder kinds (list_text lines)

-- its tiles were made, and a file could not be put
abbrev pub IsCutKept : Contents → Contents → AskedTiles → Algorithm → Fault → Type 0
IsCutKept old new a x fault =
    (kinds : List (List ℕ)) × (lines : List Line) × IsCutBy a x kinds lines × (IsOfDevice fault × SameBeside old new a.folder (length kinds))

-- why they were not all put, and what stands then
abbrev pub IsCutUnput : Contents → Contents → AskedTiles → Algorithm → Fault → Type 0
IsCutUnput old new a x fault = (SameFiles old new × IsUntiled x a.width a.height fault) ⊎ IsCutKept old new a x fault
