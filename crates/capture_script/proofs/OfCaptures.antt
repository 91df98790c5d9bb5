-- The scripts of captures of bytes.
use Rattle.gev_capture.proofs.Bytes.{packets_have_bytes}
use Rattle.capture_script.specs.Laws.{CapturesMakeScripts}
use Rattle.capture_script.specs.Traces.{CapturesAreReplayed}
use Rattle.capture_script.proofs.Whole.{packets_make_scripts}
use Rattle.capture_script.proofs.Replayed.{packets_are_replayed}

pub captures_make_scripts : CapturesMakeScripts
captures_make_scripts port p size bytes packets end some fits small all captured =
    packets_make_scripts port p size packets some fits small (packets_have_bytes bytes packets end all captured)

pub captures_are_replayed : CapturesAreReplayed
captures_are_replayed port p size bytes packets end some fits least most all captured =
    packets_are_replayed port p size packets some fits least most (packets_have_bytes bytes packets end all captured)
