-- What the scan of the program says, and why it stops.
use Rattle.law_verdicts.specs.Scan as scan
use Rattle.law_verdicts.specs.Scan.{Scan}
use Rattle.law_verdicts.specs.Streams as streams
use Rattle.smt_stream.specs.declared.scanner.Place.{Place}
use Rattle.smt_stream.specs.declared.scanner.Place.TheVariants.{Between, InString, InComment}
use Rattle.smt_stream.specs.declared.scanner.Scanner.{Scanner}
use Rattle.smt_stream.specs.declared.stop.Stop.{Stop}
use Rattle.smt_stream.specs.declared.stop.Stop.TheVariants.{NotScript, TooLong, TooDeep}

-- the place of a scan
abbrev pub plain_place : Place → scan.Place
plain_place Between = scan.Between
plain_place InString = scan.InString
plain_place InComment = scan.InComment

-- where a scan stands
abbrev pub plain_scan : Scanner → Scan
plain_scan s = record { depth = s.depth; place = plain_place s.place }

-- why a stream stops
abbrev pub plain_stop : Stop → streams.Stop
plain_stop NotScript = streams.NotScript
plain_stop TooLong = streams.TooLong
plain_stop TooDeep = streams.TooDeep
