-- The rule on multicast ranges by which the tests ask `in_range_v`.
use Rattle.law_folding.specs.Applications.{extension_of}
use Rattle.law_terms.specs.Plain.{IpAddrV4Op, PlainTerm}

-- the address of version 4 alone, as the lowest and as the highest one
abbrev pub address_twice : PlainTerm → (PlainTerm × PlainTerm)
address_twice t = (extension_of IpAddrV4Op t, extension_of IpAddrV4Op t)
