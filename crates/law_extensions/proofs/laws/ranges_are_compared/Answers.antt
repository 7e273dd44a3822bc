use Rattle.law_extensions.proofs.Blocks.{ranges_are_blocks}
use Rattle.law_extensions.proofs.Bounds.{families_are_told, ranges_are_bounded}
use Rattle.law_extensions.proofs.FreeBits.{free_bits_are_counted}
use Rattle.law_extensions.proofs.InLists.{containment_is_told}
use Rattle.law_extensions.proofs.laws.ranges_are_compared.Goals as goal

pub returns : goal.returns
returns c = record { families = families_are_told; free = free_bits_are_counted; blocks = ranges_are_blocks; bounds = ranges_are_bounded; containment = containment_is_told }
