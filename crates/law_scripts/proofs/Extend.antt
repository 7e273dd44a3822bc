-- What each line leaves of an open script.
use Rattle.std.proofs.Common.{◌&&◌, map, ◌∙◌, Some, None}
use Rattle.std.proofs.lemmas.Bool.{not-true, and_from, cond-true}
use Rattle.law_scripts.specs.Script.{Defined, DefineFun, Assert, declare, is_taken, has_sort, is_sort, knows, with_name, with_assertion, stated}
use Rattle.law_scripts.specs.Written.{OpenScriptsAreWhole, DefinitionsExtend, AssertionsExtend, CommentsExtend}
use Rattle.law_scripts.proofs.Lines.{comments_add, comments_are_lines}
use Rattle.law_scripts.proofs.First.{define_fun_line, assert_line}
use Rattle.law_scripts.proofs.Laid.{commands_extend}
use Rattle.law_scripts.proofs.Results.{declares}

pub definitions_extend : DefinitionsExtend
definitions_extend text n sort body s x b stands name-is w v fresh sort-known known =
    commands_extend text _ (DefineFun n x b) s (with_name n (Defined x b) s) stands (define_fun_line n sort body x b name-is w v)
    (cond-true (is_sort (has_sort s) x && knows s b) (declare n (Defined x b) s) None (and_from (is_sort (has_sort s) x) (knows s b) sort-known known) ∙ declares n (Defined x b) s (not-true (is_taken s n) fresh)) stands.running

pub assertions_extend : AssertionsExtend
assertions_extend text e s x stands w known =
    commands_extend text _ (Assert x) s (with_assertion x s) stands (assert_line e x w) (cond-true (knows s x) (Some (with_assertion x s)) None known) stands.running

pub comments_extend : CommentsExtend
comments_extend text comment s stands h =
    let after = comments_add text _ s stands.whole stands.script (comments_are_lines comment h) in
    record { whole = after.1; script = after.0; running = stands.running }

pub open_scripts_are_whole : OpenScriptsAreWhole
open_scripts_are_whole text s stands = record { expressions_in = map stated stands.script.commands; reads = stands.script.holds.reads; lines = stands.whole }
