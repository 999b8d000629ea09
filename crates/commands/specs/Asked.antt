-- What is asked for.
use Rattle.std.specs.Prelude.{ℕ, Bool, List, Option, map, option_map}
use Rattle.clap.specs.Words.{Text}
use Rattle.crop.specs.declared.cropping.Rect.{Rect}
use Rattle.commands.specs.declared.request.Way.{Way}
use Rattle.commands.specs.declared.request.Way.TheVariants as way
use Rattle.commands.specs.declared.request.PictureRequest.{PictureRequest}
use Rattle.commands.specs.declared.request.FormatRequest.{FormatRequest}
use Rattle.commands.specs.declared.request.CompileRequest.{CompileRequest}
use Rattle.commands.specs.declared.request.CheckRequest.{CheckRequest}
use Rattle.commands.specs.declared.request.DrawRequest.{DrawRequest}
use Rattle.commands.specs.declared.request.ReplayRequest.{ReplayRequest}
use Rattle.commands.specs.declared.request.CompareRequest.{CompareRequest}
use Rattle.commands.specs.declared.request.CropRequest.{CropRequest}
use Rattle.commands.specs.declared.request.TilesRequest.{TilesRequest}
use Rattle.commands.specs.declared.request.Request.{Request}
use Rattle.commands.specs.declared.request.Request.TheVariants as request

-- how a picture is computed: by the definitions alone, of which a pixel may take so many evaluations, or by the plan of a file,
-- in the hands of so many workers, which may make so many stores if that is bounded
pub data AskedWay : Type 0 where
  Plain : (most : ℕ) → AskedWay
  File : (plan : Text) (workers : ℕ) (most : Option ℕ) → AskedWay

-- how a picture is computed, and the names of three files
pub record AskedPicture : Type 0 where
  pub way : AskedWay
  pub algorithm : Text
  pub input : Text
  pub output : Text

-- an algorithm to be written in its canonical text, by the names of two files
pub record AskedFormat : Type 0 where
  pub algorithm : Text
  pub output : Text

-- a schedule to be compiled, by the names of three files
pub record AskedCompile : Type 0 where
  pub algorithm : Text
  pub schedule : Text
  pub plan : Text

-- a plan to be checked, by the names of two files
pub record AskedCheck : Type 0 where
  pub algorithm : Text
  pub plan : Text

-- an order to be replayed
pub record AskedReplay : Type 0 where
  pub check : AskedCheck
  pub input : Text
  pub order : Text

-- a plan whose pieces are drawn, after an order if there is one
pub record AskedDraw : Type 0 where
  pub check : AskedCheck
  pub output : Text
  pub order : Option Text

-- schedules whose pictures are compared with the plain one, or with that of the first of them
pub record AskedCompare : Type 0 where
  pub algorithm : Text
  pub input : Text
  pub schedules : List Text
  pub by_first : Bool

-- a tile whose algorithm is written
pub record AskedCrop : Type 0 where
  pub algorithm : Text
  pub rect : Rect
  pub output : Text

-- an algorithm to be cut into tiles, so many samples wide and high
pub record AskedTiles : Type 0 where
  pub algorithm : Text
  pub width : ℕ
  pub height : ℕ
  pub folder : Text

pub data Asked : Type 0 where
  Picture : AskedPicture → Asked
  Format : AskedFormat → Asked
  Explain : Text → Asked
  Compile : AskedCompile → Asked
  Check : AskedCheck → Asked
  Cost : AskedCheck → Asked
  Show : AskedCheck → Asked
  Draw : AskedDraw → Asked
  Replay : AskedReplay → Asked
  Compare : AskedCompare → Asked
  Crop : AskedCrop → Asked
  Tiles : AskedTiles → Asked

abbrev pub way_asked : Way → AskedWay
way_asked (way.Plain most) = Plain most
way_asked (way.File plan workers most) = File plan.now workers most

abbrev pub picture_asked : PictureRequest → AskedPicture
picture_asked r = record { way = way_asked r.way; algorithm = r.algorithm.now; input = r.input.now; output = r.output.now }

abbrev pub format_asked : FormatRequest → AskedFormat
format_asked r = record { algorithm = r.algorithm.now; output = r.output.now }

abbrev pub compile_asked : CompileRequest → AskedCompile
compile_asked r = record { algorithm = r.algorithm.now; schedule = r.schedule.now; plan = r.plan.now }

abbrev pub check_asked : CheckRequest → AskedCheck
check_asked r = record { algorithm = r.algorithm.now; plan = r.plan.now }

abbrev pub replay_asked : ReplayRequest → AskedReplay
replay_asked r = record { check = check_asked r.check; input = r.input.now; order = r.order.now }

abbrev pub draw_asked : DrawRequest → AskedDraw
draw_asked r = record { check = check_asked r.check; output = r.output.now; order = option_map (λ name. name.now) r.order }

abbrev pub compare_asked : CompareRequest → AskedCompare
compare_asked r = record { algorithm = r.algorithm.now; input = r.input.now; schedules = map (λ name. name.now) r.schedules.items; by_first = r.by_first }

abbrev pub crop_asked : CropRequest → AskedCrop
crop_asked r = record { algorithm = r.algorithm.now; rect = r.rect; output = r.output.now }

abbrev pub tiles_asked : TilesRequest → AskedTiles
tiles_asked r = record { algorithm = r.algorithm.now; width = r.width; height = r.height; folder = r.folder.now }

abbrev pub asked_by : Request → Asked
asked_by (request.Picture r) = Picture (picture_asked r)
asked_by (request.Format r) = Format (format_asked r)
asked_by (request.Explain r) = Explain r.code.now
asked_by (request.Compile r) = Compile (compile_asked r)
asked_by (request.Check r) = Check (check_asked r)
asked_by (request.Cost r) = Cost (check_asked r)
asked_by (request.Show r) = Show (check_asked r)
asked_by (request.Draw r) = Draw (draw_asked r)
asked_by (request.Replay r) = Replay (replay_asked r)
asked_by (request.Compare r) = Compare (compare_asked r)
asked_by (request.Crop r) = Crop (crop_asked r)
asked_by (request.Tiles r) = Tiles (tiles_asked r)
