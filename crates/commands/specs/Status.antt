-- Exit statuses.
use Rattle.std.specs.Prelude.{ℕ, Result, Ok, Err}
use Rattle.pnm.specs.declared.error.PnmError.{PnmError}
use Rattle.pnm.specs.declared.error.PnmError.TheVariants as image
use Rattle.commands.specs.declared.pipeline.fault.Fault.{Fault}
use Rattle.commands.specs.declared.pipeline.fault.Fault.TheVariants.{Memory, Algo, Schedule, Rule, Names, Plan, Form, Limit, Order, Image, Budget, Unfinished, Outside, Uncut, Difference}
use Rattle.commands.specs.declared.device.FileError.{FileError}
use Rattle.commands.specs.declared.device.FileError.TheVariants as file

-- a fault of an image file, of the device or of memory
abbrev pub image_status : PnmError → ℕ
image_status image.Memory = 4
image_status image.Device = 5
image_status _ = 3

-- the exit status after a refusal
abbrev pub status_of : Fault → ℕ
status_of Memory = 4
status_of (Algo code span) = 3
status_of (Schedule code span) = 3
status_of (Rule rule function) = 3
status_of Names = 3
status_of (Plan code line) = 1
status_of (Image e) = image_status e
status_of (Form line) = 3
status_of (Limit line) = 3
status_of Order = 3
status_of Budget = 3
status_of (Unfinished piece) = 6
status_of Outside = 3
status_of (Uncut name) = 3
status_of Difference = 1

-- 0 where a command is done, else the refusal's
abbrev pub status_after : Result (Unit {0}) Fault → ℕ
status_after (Ok _) = 0
status_after (Err fault) = status_of fault

-- a file's error as a refusal
abbrev pub fault_of : FileError → Fault
fault_of file.Device = Image image.Device
fault_of file.Memory = Memory
