-- A long script, line by line.
use Rattle.std.proofs.Common.{[], ◌∷◌, refl}
use Rattle.std.specs.Prelude.{codes}
use Rattle.law_texts.specs.Lexicon.{Number, Text}
use Rattle.law_texts.specs.Reading.{Leaf}
use Rattle.law_scripts.specs.Script.{DeclareConst, DeclareFun, DefineFun, Assert, group, name, start}
use Rattle.law_scripts.specs.Written.{option_lines, option_command}
use Rattle.law_scripts.specs.LongRows.{LongSampleIsScript}
use Rattle.law_scripts.proofs.Lines.{brackets_write, names_write, numerals_write, strings_write, commands_are_lines}
use Rattle.law_scripts.proofs.First.{option_is_line}
use Rattle.law_scripts.proofs.Going.{part, goes, comment_goes, begins}
use Rattle.law_scripts.proofs.Laid.{groups_write, selectors_write, datatype_line}

pub long_sample_is_script : LongSampleIsScript
long_sample_is_script =
    let head = goes [] option_lines option_command start _ begins option_is_line refl tt in
    let x1 = goes _ (codes "(declare-datatype Datetime (\n  (Datetime (datetimeVal (_ BitVec 64)))))\n") _ _ _ head (datatype_line (codes "Datetime") (record { text = codes "(Datetime (datetimeVal (_ BitVec 64)))"; built = record { name = codes "Datetime"; selectors = (codes "datetimeVal", (group ((name (codes "_")) ∷ (name (codes "BitVec")) ∷ (Leaf (Number 64)) ∷ []))) ∷ [] } } ∷ []) refl (selectors_write (record { name = codes "Datetime"; selectors = (codes "datetimeVal", (group ((name (codes "_")) ∷ (name (codes "BitVec")) ∷ (Leaf (Number 64)) ∷ []))) ∷ [] }) (part (codes "(datetimeVal (_ BitVec 64))") (group ((name (codes "datetimeVal")) ∷ (group ((name (codes "_")) ∷ (name (codes "BitVec")) ∷ (Leaf (Number 64)) ∷ [])) ∷ [])) ∷ []) [] refl ((groups_write (codes "datetimeVal") (name (codes "datetimeVal")) (part (codes "(_ BitVec 64)") (group ((name (codes "_")) ∷ (name (codes "BitVec")) ∷ (Leaf (Number 64)) ∷ [])) ∷ []) [] (names_write (codes "datetimeVal") refl) ((groups_write (codes "_") (name (codes "_")) (part (codes "BitVec") (name (codes "BitVec")) ∷ part (codes "64") (Leaf (Number 64)) ∷ []) [] (names_write (codes "_") refl) ((names_write (codes "BitVec") refl), ((numerals_write (codes "64") refl), tt)) refl), tt) refl), tt) refl refl, tt)) refl tt in
    let x2 = goes _ (codes "(declare-datatype IPAddr (\n  (V4 (addrV4 (_ BitVec 32)) (prefixV4 (Option (_ BitVec 5))))\n  (V6 (addrV6 (_ BitVec 128)) (prefixV6 (Option (_ BitVec 7))))))\n") _ _ _ x1 (datatype_line (codes "IPAddr") (record { text = codes "(V4 (addrV4 (_ BitVec 32)) (prefixV4 (Option (_ BitVec 5))))"; built = record { name = codes "V4"; selectors = (codes "addrV4", (group ((name (codes "_")) ∷ (name (codes "BitVec")) ∷ (Leaf (Number 32)) ∷ []))) ∷ (codes "prefixV4", (group ((name (codes "Option")) ∷ (group ((name (codes "_")) ∷ (name (codes "BitVec")) ∷ (Leaf (Number 5)) ∷ [])) ∷ []))) ∷ [] } } ∷ record { text = codes "(V6 (addrV6 (_ BitVec 128)) (prefixV6 (Option (_ BitVec 7))))"; built = record { name = codes "V6"; selectors = (codes "addrV6", (group ((name (codes "_")) ∷ (name (codes "BitVec")) ∷ (Leaf (Number 128)) ∷ []))) ∷ (codes "prefixV6", (group ((name (codes "Option")) ∷ (group ((name (codes "_")) ∷ (name (codes "BitVec")) ∷ (Leaf (Number 7)) ∷ [])) ∷ []))) ∷ [] } } ∷ []) refl (selectors_write (record { name = codes "V4"; selectors = (codes "addrV4", (group ((name (codes "_")) ∷ (name (codes "BitVec")) ∷ (Leaf (Number 32)) ∷ []))) ∷ (codes "prefixV4", (group ((name (codes "Option")) ∷ (group ((name (codes "_")) ∷ (name (codes "BitVec")) ∷ (Leaf (Number 5)) ∷ [])) ∷ []))) ∷ [] }) (part (codes "(addrV4 (_ BitVec 32))") (group ((name (codes "addrV4")) ∷ (group ((name (codes "_")) ∷ (name (codes "BitVec")) ∷ (Leaf (Number 32)) ∷ [])) ∷ [])) ∷ part (codes "(prefixV4 (Option (_ BitVec 5)))") (group ((name (codes "prefixV4")) ∷ (group ((name (codes "Option")) ∷ (group ((name (codes "_")) ∷ (name (codes "BitVec")) ∷ (Leaf (Number 5)) ∷ [])) ∷ [])) ∷ [])) ∷ []) [] refl ((groups_write (codes "addrV4") (name (codes "addrV4")) (part (codes "(_ BitVec 32)") (group ((name (codes "_")) ∷ (name (codes "BitVec")) ∷ (Leaf (Number 32)) ∷ [])) ∷ []) [] (names_write (codes "addrV4") refl) ((groups_write (codes "_") (name (codes "_")) (part (codes "BitVec") (name (codes "BitVec")) ∷ part (codes "32") (Leaf (Number 32)) ∷ []) [] (names_write (codes "_") refl) ((names_write (codes "BitVec") refl), ((numerals_write (codes "32") refl), tt)) refl), tt) refl), ((groups_write (codes "prefixV4") (name (codes "prefixV4")) (part (codes "(Option (_ BitVec 5))") (group ((name (codes "Option")) ∷ (group ((name (codes "_")) ∷ (name (codes "BitVec")) ∷ (Leaf (Number 5)) ∷ [])) ∷ [])) ∷ []) [] (names_write (codes "prefixV4") refl) ((groups_write (codes "Option") (name (codes "Option")) (part (codes "(_ BitVec 5)") (group ((name (codes "_")) ∷ (name (codes "BitVec")) ∷ (Leaf (Number 5)) ∷ [])) ∷ []) [] (names_write (codes "Option") refl) ((groups_write (codes "_") (name (codes "_")) (part (codes "BitVec") (name (codes "BitVec")) ∷ part (codes "5") (Leaf (Number 5)) ∷ []) [] (names_write (codes "_") refl) ((names_write (codes "BitVec") refl), ((numerals_write (codes "5") refl), tt)) refl), tt) refl), tt) refl), tt)) refl refl, (selectors_write (record { name = codes "V6"; selectors = (codes "addrV6", (group ((name (codes "_")) ∷ (name (codes "BitVec")) ∷ (Leaf (Number 128)) ∷ []))) ∷ (codes "prefixV6", (group ((name (codes "Option")) ∷ (group ((name (codes "_")) ∷ (name (codes "BitVec")) ∷ (Leaf (Number 7)) ∷ [])) ∷ []))) ∷ [] }) (part (codes "(addrV6 (_ BitVec 128))") (group ((name (codes "addrV6")) ∷ (group ((name (codes "_")) ∷ (name (codes "BitVec")) ∷ (Leaf (Number 128)) ∷ [])) ∷ [])) ∷ part (codes "(prefixV6 (Option (_ BitVec 7)))") (group ((name (codes "prefixV6")) ∷ (group ((name (codes "Option")) ∷ (group ((name (codes "_")) ∷ (name (codes "BitVec")) ∷ (Leaf (Number 7)) ∷ [])) ∷ [])) ∷ [])) ∷ []) [] refl ((groups_write (codes "addrV6") (name (codes "addrV6")) (part (codes "(_ BitVec 128)") (group ((name (codes "_")) ∷ (name (codes "BitVec")) ∷ (Leaf (Number 128)) ∷ [])) ∷ []) [] (names_write (codes "addrV6") refl) ((groups_write (codes "_") (name (codes "_")) (part (codes "BitVec") (name (codes "BitVec")) ∷ part (codes "128") (Leaf (Number 128)) ∷ []) [] (names_write (codes "_") refl) ((names_write (codes "BitVec") refl), ((numerals_write (codes "128") refl), tt)) refl), tt) refl), ((groups_write (codes "prefixV6") (name (codes "prefixV6")) (part (codes "(Option (_ BitVec 7))") (group ((name (codes "Option")) ∷ (group ((name (codes "_")) ∷ (name (codes "BitVec")) ∷ (Leaf (Number 7)) ∷ [])) ∷ [])) ∷ []) [] (names_write (codes "prefixV6") refl) ((groups_write (codes "Option") (name (codes "Option")) (part (codes "(_ BitVec 7)") (group ((name (codes "_")) ∷ (name (codes "BitVec")) ∷ (Leaf (Number 7)) ∷ [])) ∷ []) [] (names_write (codes "Option") refl) ((groups_write (codes "_") (name (codes "_")) (part (codes "BitVec") (name (codes "BitVec")) ∷ part (codes "7") (Leaf (Number 7)) ∷ []) [] (names_write (codes "_") refl) ((names_write (codes "BitVec") refl), ((numerals_write (codes "7") refl), tt)) refl), tt) refl), tt) refl), tt)) refl refl, tt))) refl tt in
    let x3 = comment_goes _ (codes " {dept, joined, src}") _ x2 refl in
    let x4 = goes _ (codes "(declare-datatype R2 (\n  (R2 (R2_a0 String) (R2_a1 Datetime) (R2_a2 IPAddr))))\n") _ _ _ x3 (datatype_line (codes "R2") (record { text = codes "(R2 (R2_a0 String) (R2_a1 Datetime) (R2_a2 IPAddr))"; built = record { name = codes "R2"; selectors = (codes "R2_a0", (name (codes "String"))) ∷ (codes "R2_a1", (name (codes "Datetime"))) ∷ (codes "R2_a2", (name (codes "IPAddr"))) ∷ [] } } ∷ []) refl (selectors_write (record { name = codes "R2"; selectors = (codes "R2_a0", (name (codes "String"))) ∷ (codes "R2_a1", (name (codes "Datetime"))) ∷ (codes "R2_a2", (name (codes "IPAddr"))) ∷ [] }) (part (codes "(R2_a0 String)") (group ((name (codes "R2_a0")) ∷ (name (codes "String")) ∷ [])) ∷ part (codes "(R2_a1 Datetime)") (group ((name (codes "R2_a1")) ∷ (name (codes "Datetime")) ∷ [])) ∷ part (codes "(R2_a2 IPAddr)") (group ((name (codes "R2_a2")) ∷ (name (codes "IPAddr")) ∷ [])) ∷ []) [] refl ((groups_write (codes "R2_a0") (name (codes "R2_a0")) (part (codes "String") (name (codes "String")) ∷ []) [] (names_write (codes "R2_a0") refl) ((names_write (codes "String") refl), tt) refl), ((groups_write (codes "R2_a1") (name (codes "R2_a1")) (part (codes "Datetime") (name (codes "Datetime")) ∷ []) [] (names_write (codes "R2_a1") refl) ((names_write (codes "Datetime") refl), tt) refl), ((groups_write (codes "R2_a2") (name (codes "R2_a2")) (part (codes "IPAddr") (name (codes "IPAddr")) ∷ []) [] (names_write (codes "R2_a2") refl) ((names_write (codes "IPAddr") refl), tt) refl), tt))) refl refl, tt)) refl tt in
    let x5 = comment_goes _ (codes " User") _ x4 refl in
    let x6 = goes _ (codes "(declare-datatype E3 (\n  (E3 (E3_eid String))))\n") _ _ _ x5 (datatype_line (codes "E3") (record { text = codes "(E3 (E3_eid String))"; built = record { name = codes "E3"; selectors = (codes "E3_eid", (name (codes "String"))) ∷ [] } } ∷ []) refl (selectors_write (record { name = codes "E3"; selectors = (codes "E3_eid", (name (codes "String"))) ∷ [] }) (part (codes "(E3_eid String)") (group ((name (codes "E3_eid")) ∷ (name (codes "String")) ∷ [])) ∷ []) [] refl ((groups_write (codes "E3_eid") (name (codes "E3_eid")) (part (codes "String") (name (codes "String")) ∷ []) [] (names_write (codes "E3_eid") refl) ((names_write (codes "String") refl), tt) refl), tt) refl refl, tt)) refl tt in
    let x7 = comment_goes _ (codes " \"principal\"") _ x6 refl in
    let x8 = goes _ (codes "(declare-const t0 E3)\n") _ _ _ x7 (commands_are_lines (codes "(declare-const t0 E3)") (DeclareConst (codes "t0") (name (codes "E3"))) (groups_write (codes "declare-const") (name (codes "declare-const")) (part (codes "t0") (name (codes "t0")) ∷ part (codes "E3") (name (codes "E3")) ∷ []) [] (names_write (codes "declare-const") refl) ((names_write (codes "t0") refl), ((names_write (codes "E3") refl), tt)) refl)) refl tt in
    let x9 = comment_goes _ (codes " attrs[User]") _ x8 refl in
    let x10 = goes _ (codes "(declare-fun f0 (E3) R2)\n") _ _ _ x9 (commands_are_lines (codes "(declare-fun f0 (E3) R2)") (DeclareFun (codes "f0") (name (codes "E3")) (name (codes "R2"))) (groups_write (codes "declare-fun") (name (codes "declare-fun")) (part (codes "f0") (name (codes "f0")) ∷ part (codes "(E3)") (group ((name (codes "E3")) ∷ [])) ∷ part (codes "R2") (name (codes "R2")) ∷ []) [] (names_write (codes "declare-fun") refl) ((names_write (codes "f0") refl), ((groups_write (codes "E3") (name (codes "E3")) ([]) [] (names_write (codes "E3") refl) tt refl), ((names_write (codes "R2") refl), tt))) refl)) refl tt in
    let x11 = goes _ (codes "(define-fun t1 () R2 (f0 t0))\n") _ _ _ x10 (commands_are_lines (codes "(define-fun t1 () R2 (f0 t0))") (DefineFun (codes "t1") (name (codes "R2")) (group ((name (codes "f0")) ∷ (name (codes "t0")) ∷ []))) (groups_write (codes "define-fun") (name (codes "define-fun")) (part (codes "t1") (name (codes "t1")) ∷ part (codes "()") (group ([])) ∷ part (codes "R2") (name (codes "R2")) ∷ part (codes "(f0 t0)") (group ((name (codes "f0")) ∷ (name (codes "t0")) ∷ [])) ∷ []) [] (names_write (codes "define-fun") refl) ((names_write (codes "t1") refl), ((brackets_write [] [] tt refl), ((names_write (codes "R2") refl), ((groups_write (codes "f0") (name (codes "f0")) (part (codes "t0") (name (codes "t0")) ∷ []) [] (names_write (codes "f0") refl) ((names_write (codes "t0") refl), tt) refl), tt)))) refl)) refl refl in
    let x12 = goes _ (codes "(define-fun t2 () String (R2_a0 t1))\n") _ _ _ x11 (commands_are_lines (codes "(define-fun t2 () String (R2_a0 t1))") (DefineFun (codes "t2") (name (codes "String")) (group ((name (codes "R2_a0")) ∷ (name (codes "t1")) ∷ []))) (groups_write (codes "define-fun") (name (codes "define-fun")) (part (codes "t2") (name (codes "t2")) ∷ part (codes "()") (group ([])) ∷ part (codes "String") (name (codes "String")) ∷ part (codes "(R2_a0 t1)") (group ((name (codes "R2_a0")) ∷ (name (codes "t1")) ∷ [])) ∷ []) [] (names_write (codes "define-fun") refl) ((names_write (codes "t2") refl), ((brackets_write [] [] tt refl), ((names_write (codes "String") refl), ((groups_write (codes "R2_a0") (name (codes "R2_a0")) (part (codes "t1") (name (codes "t1")) ∷ []) [] (names_write (codes "R2_a0") refl) ((names_write (codes "t1") refl), tt) refl), tt)))) refl)) refl refl in
    let x13 = goes _ (codes "(define-fun t3 () Bool (str.in_re t2 (re.++ (str.to_re \"e\") (str.to_re \"n\") (str.to_re \"g\") (re.* re.allchar))))\n") _ _ _ x12 (commands_are_lines (codes "(define-fun t3 () Bool (str.in_re t2 (re.++ (str.to_re \"e\") (str.to_re \"n\") (str.to_re \"g\") (re.* re.allchar))))") (DefineFun (codes "t3") (name (codes "Bool")) (group ((name (codes "str.in_re")) ∷ (name (codes "t2")) ∷ (group ((name (codes "re.++")) ∷ (group ((name (codes "str.to_re")) ∷ (Leaf (Text (codes "e"))) ∷ [])) ∷ (group ((name (codes "str.to_re")) ∷ (Leaf (Text (codes "n"))) ∷ [])) ∷ (group ((name (codes "str.to_re")) ∷ (Leaf (Text (codes "g"))) ∷ [])) ∷ (group ((name (codes "re.*")) ∷ (name (codes "re.allchar")) ∷ [])) ∷ [])) ∷ []))) (groups_write (codes "define-fun") (name (codes "define-fun")) (part (codes "t3") (name (codes "t3")) ∷ part (codes "()") (group ([])) ∷ part (codes "Bool") (name (codes "Bool")) ∷ part (codes "(str.in_re t2 (re.++ (str.to_re \"e\") (str.to_re \"n\") (str.to_re \"g\") (re.* re.allchar)))") (group ((name (codes "str.in_re")) ∷ (name (codes "t2")) ∷ (group ((name (codes "re.++")) ∷ (group ((name (codes "str.to_re")) ∷ (Leaf (Text (codes "e"))) ∷ [])) ∷ (group ((name (codes "str.to_re")) ∷ (Leaf (Text (codes "n"))) ∷ [])) ∷ (group ((name (codes "str.to_re")) ∷ (Leaf (Text (codes "g"))) ∷ [])) ∷ (group ((name (codes "re.*")) ∷ (name (codes "re.allchar")) ∷ [])) ∷ [])) ∷ [])) ∷ []) [] (names_write (codes "define-fun") refl) ((names_write (codes "t3") refl), ((brackets_write [] [] tt refl), ((names_write (codes "Bool") refl), ((groups_write (codes "str.in_re") (name (codes "str.in_re")) (part (codes "t2") (name (codes "t2")) ∷ part (codes "(re.++ (str.to_re \"e\") (str.to_re \"n\") (str.to_re \"g\") (re.* re.allchar))") (group ((name (codes "re.++")) ∷ (group ((name (codes "str.to_re")) ∷ (Leaf (Text (codes "e"))) ∷ [])) ∷ (group ((name (codes "str.to_re")) ∷ (Leaf (Text (codes "n"))) ∷ [])) ∷ (group ((name (codes "str.to_re")) ∷ (Leaf (Text (codes "g"))) ∷ [])) ∷ (group ((name (codes "re.*")) ∷ (name (codes "re.allchar")) ∷ [])) ∷ [])) ∷ []) [] (names_write (codes "str.in_re") refl) ((names_write (codes "t2") refl), ((groups_write (codes "re.++") (name (codes "re.++")) (part (codes "(str.to_re \"e\")") (group ((name (codes "str.to_re")) ∷ (Leaf (Text (codes "e"))) ∷ [])) ∷ part (codes "(str.to_re \"n\")") (group ((name (codes "str.to_re")) ∷ (Leaf (Text (codes "n"))) ∷ [])) ∷ part (codes "(str.to_re \"g\")") (group ((name (codes "str.to_re")) ∷ (Leaf (Text (codes "g"))) ∷ [])) ∷ part (codes "(re.* re.allchar)") (group ((name (codes "re.*")) ∷ (name (codes "re.allchar")) ∷ [])) ∷ []) [] (names_write (codes "re.++") refl) ((groups_write (codes "str.to_re") (name (codes "str.to_re")) (part (codes "\"e\"") (Leaf (Text (codes "e"))) ∷ []) [] (names_write (codes "str.to_re") refl) ((strings_write (codes "e") refl), tt) refl), ((groups_write (codes "str.to_re") (name (codes "str.to_re")) (part (codes "\"n\"") (Leaf (Text (codes "n"))) ∷ []) [] (names_write (codes "str.to_re") refl) ((strings_write (codes "n") refl), tt) refl), ((groups_write (codes "str.to_re") (name (codes "str.to_re")) (part (codes "\"g\"") (Leaf (Text (codes "g"))) ∷ []) [] (names_write (codes "str.to_re") refl) ((strings_write (codes "g") refl), tt) refl), ((groups_write (codes "re.*") (name (codes "re.*")) (part (codes "re.allchar") (name (codes "re.allchar")) ∷ []) [] (names_write (codes "re.*") refl) ((names_write (codes "re.allchar") refl), tt) refl), tt)))) refl), tt)) refl), tt)))) refl)) refl refl in
    let x14 = comment_goes _ (codes " tags[User]") _ x13 refl in
    let x15 = goes _ (codes "(declare-fun f1 (E3) (Set String))\n") _ _ _ x14 (commands_are_lines (codes "(declare-fun f1 (E3) (Set String))") (DeclareFun (codes "f1") (name (codes "E3")) (group ((name (codes "Set")) ∷ (name (codes "String")) ∷ []))) (groups_write (codes "declare-fun") (name (codes "declare-fun")) (part (codes "f1") (name (codes "f1")) ∷ part (codes "(E3)") (group ((name (codes "E3")) ∷ [])) ∷ part (codes "(Set String)") (group ((name (codes "Set")) ∷ (name (codes "String")) ∷ [])) ∷ []) [] (names_write (codes "declare-fun") refl) ((names_write (codes "f1") refl), ((groups_write (codes "E3") (name (codes "E3")) ([]) [] (names_write (codes "E3") refl) tt refl), ((groups_write (codes "Set") (name (codes "Set")) (part (codes "String") (name (codes "String")) ∷ []) [] (names_write (codes "Set") refl) ((names_write (codes "String") refl), tt) refl), tt))) refl)) refl tt in
    let x16 = goes _ (codes "(define-fun t4 () (Set String) (f1 t0))\n") _ _ _ x15 (commands_are_lines (codes "(define-fun t4 () (Set String) (f1 t0))") (DefineFun (codes "t4") (group ((name (codes "Set")) ∷ (name (codes "String")) ∷ [])) (group ((name (codes "f1")) ∷ (name (codes "t0")) ∷ []))) (groups_write (codes "define-fun") (name (codes "define-fun")) (part (codes "t4") (name (codes "t4")) ∷ part (codes "()") (group ([])) ∷ part (codes "(Set String)") (group ((name (codes "Set")) ∷ (name (codes "String")) ∷ [])) ∷ part (codes "(f1 t0)") (group ((name (codes "f1")) ∷ (name (codes "t0")) ∷ [])) ∷ []) [] (names_write (codes "define-fun") refl) ((names_write (codes "t4") refl), ((brackets_write [] [] tt refl), ((groups_write (codes "Set") (name (codes "Set")) (part (codes "String") (name (codes "String")) ∷ []) [] (names_write (codes "Set") refl) ((names_write (codes "String") refl), tt) refl), ((groups_write (codes "f1") (name (codes "f1")) (part (codes "t0") (name (codes "t0")) ∷ []) [] (names_write (codes "f1") refl) ((names_write (codes "t0") refl), tt) refl), tt)))) refl)) refl refl in
    let x17 = goes _ (codes "(define-fun t5 () Bool (set.member \"vpn\" t4))\n") _ _ _ x16 (commands_are_lines (codes "(define-fun t5 () Bool (set.member \"vpn\" t4))") (DefineFun (codes "t5") (name (codes "Bool")) (group ((name (codes "set.member")) ∷ (Leaf (Text (codes "vpn"))) ∷ (name (codes "t4")) ∷ []))) (groups_write (codes "define-fun") (name (codes "define-fun")) (part (codes "t5") (name (codes "t5")) ∷ part (codes "()") (group ([])) ∷ part (codes "Bool") (name (codes "Bool")) ∷ part (codes "(set.member \"vpn\" t4)") (group ((name (codes "set.member")) ∷ (Leaf (Text (codes "vpn"))) ∷ (name (codes "t4")) ∷ [])) ∷ []) [] (names_write (codes "define-fun") refl) ((names_write (codes "t5") refl), ((brackets_write [] [] tt refl), ((names_write (codes "Bool") refl), ((groups_write (codes "set.member") (name (codes "set.member")) (part (codes "\"vpn\"") (Leaf (Text (codes "vpn"))) ∷ part (codes "t4") (name (codes "t4")) ∷ []) [] (names_write (codes "set.member") refl) ((strings_write (codes "vpn") refl), ((names_write (codes "t4") refl), tt)) refl), tt)))) refl)) refl refl in
    let x18 = goes _ (codes "(define-fun t6 () IPAddr (R2_a2 t1))\n") _ _ _ x17 (commands_are_lines (codes "(define-fun t6 () IPAddr (R2_a2 t1))") (DefineFun (codes "t6") (name (codes "IPAddr")) (group ((name (codes "R2_a2")) ∷ (name (codes "t1")) ∷ []))) (groups_write (codes "define-fun") (name (codes "define-fun")) (part (codes "t6") (name (codes "t6")) ∷ part (codes "()") (group ([])) ∷ part (codes "IPAddr") (name (codes "IPAddr")) ∷ part (codes "(R2_a2 t1)") (group ((name (codes "R2_a2")) ∷ (name (codes "t1")) ∷ [])) ∷ []) [] (names_write (codes "define-fun") refl) ((names_write (codes "t6") refl), ((brackets_write [] [] tt refl), ((names_write (codes "IPAddr") refl), ((groups_write (codes "R2_a2") (name (codes "R2_a2")) (part (codes "t1") (name (codes "t1")) ∷ []) [] (names_write (codes "R2_a2") refl) ((names_write (codes "t1") refl), tt) refl), tt)))) refl)) refl refl in
    let x19 = goes _ (codes "(define-fun t7 () Bool ((_ is V4) t6))\n") _ _ _ x18 (commands_are_lines (codes "(define-fun t7 () Bool ((_ is V4) t6))") (DefineFun (codes "t7") (name (codes "Bool")) (group ((group ((name (codes "_")) ∷ (name (codes "is")) ∷ (name (codes "V4")) ∷ [])) ∷ (name (codes "t6")) ∷ []))) (groups_write (codes "define-fun") (name (codes "define-fun")) (part (codes "t7") (name (codes "t7")) ∷ part (codes "()") (group ([])) ∷ part (codes "Bool") (name (codes "Bool")) ∷ part (codes "((_ is V4) t6)") (group ((group ((name (codes "_")) ∷ (name (codes "is")) ∷ (name (codes "V4")) ∷ [])) ∷ (name (codes "t6")) ∷ [])) ∷ []) [] (names_write (codes "define-fun") refl) ((names_write (codes "t7") refl), ((brackets_write [] [] tt refl), ((names_write (codes "Bool") refl), ((groups_write (codes "(_ is V4)") (group ((name (codes "_")) ∷ (name (codes "is")) ∷ (name (codes "V4")) ∷ [])) (part (codes "t6") (name (codes "t6")) ∷ []) [] (groups_write (codes "_") (name (codes "_")) (part (codes "is") (name (codes "is")) ∷ part (codes "V4") (name (codes "V4")) ∷ []) [] (names_write (codes "_") refl) ((names_write (codes "is") refl), ((names_write (codes "V4") refl), tt)) refl) ((names_write (codes "t6") refl), tt) refl), tt)))) refl)) refl refl in
    let x20 = goes _ (codes "(define-fun t8 () (_ BitVec 32) (addrV4 t6))\n") _ _ _ x19 (commands_are_lines (codes "(define-fun t8 () (_ BitVec 32) (addrV4 t6))") (DefineFun (codes "t8") (group ((name (codes "_")) ∷ (name (codes "BitVec")) ∷ (Leaf (Number 32)) ∷ [])) (group ((name (codes "addrV4")) ∷ (name (codes "t6")) ∷ []))) (groups_write (codes "define-fun") (name (codes "define-fun")) (part (codes "t8") (name (codes "t8")) ∷ part (codes "()") (group ([])) ∷ part (codes "(_ BitVec 32)") (group ((name (codes "_")) ∷ (name (codes "BitVec")) ∷ (Leaf (Number 32)) ∷ [])) ∷ part (codes "(addrV4 t6)") (group ((name (codes "addrV4")) ∷ (name (codes "t6")) ∷ [])) ∷ []) [] (names_write (codes "define-fun") refl) ((names_write (codes "t8") refl), ((brackets_write [] [] tt refl), ((groups_write (codes "_") (name (codes "_")) (part (codes "BitVec") (name (codes "BitVec")) ∷ part (codes "32") (Leaf (Number 32)) ∷ []) [] (names_write (codes "_") refl) ((names_write (codes "BitVec") refl), ((numerals_write (codes "32") refl), tt)) refl), ((groups_write (codes "addrV4") (name (codes "addrV4")) (part (codes "t6") (name (codes "t6")) ∷ []) [] (names_write (codes "addrV4") refl) ((names_write (codes "t6") refl), tt) refl), tt)))) refl)) refl refl in
    let x21 = goes _ (codes "(define-fun t9 () (_ BitVec 32) (bvlshr t8 (_ bv24 32)))\n") _ _ _ x20 (commands_are_lines (codes "(define-fun t9 () (_ BitVec 32) (bvlshr t8 (_ bv24 32)))") (DefineFun (codes "t9") (group ((name (codes "_")) ∷ (name (codes "BitVec")) ∷ (Leaf (Number 32)) ∷ [])) (group ((name (codes "bvlshr")) ∷ (name (codes "t8")) ∷ (group ((name (codes "_")) ∷ (name (codes "bv24")) ∷ (Leaf (Number 32)) ∷ [])) ∷ []))) (groups_write (codes "define-fun") (name (codes "define-fun")) (part (codes "t9") (name (codes "t9")) ∷ part (codes "()") (group ([])) ∷ part (codes "(_ BitVec 32)") (group ((name (codes "_")) ∷ (name (codes "BitVec")) ∷ (Leaf (Number 32)) ∷ [])) ∷ part (codes "(bvlshr t8 (_ bv24 32))") (group ((name (codes "bvlshr")) ∷ (name (codes "t8")) ∷ (group ((name (codes "_")) ∷ (name (codes "bv24")) ∷ (Leaf (Number 32)) ∷ [])) ∷ [])) ∷ []) [] (names_write (codes "define-fun") refl) ((names_write (codes "t9") refl), ((brackets_write [] [] tt refl), ((groups_write (codes "_") (name (codes "_")) (part (codes "BitVec") (name (codes "BitVec")) ∷ part (codes "32") (Leaf (Number 32)) ∷ []) [] (names_write (codes "_") refl) ((names_write (codes "BitVec") refl), ((numerals_write (codes "32") refl), tt)) refl), ((groups_write (codes "bvlshr") (name (codes "bvlshr")) (part (codes "t8") (name (codes "t8")) ∷ part (codes "(_ bv24 32)") (group ((name (codes "_")) ∷ (name (codes "bv24")) ∷ (Leaf (Number 32)) ∷ [])) ∷ []) [] (names_write (codes "bvlshr") refl) ((names_write (codes "t8") refl), ((groups_write (codes "_") (name (codes "_")) (part (codes "bv24") (name (codes "bv24")) ∷ part (codes "32") (Leaf (Number 32)) ∷ []) [] (names_write (codes "_") refl) ((names_write (codes "bv24") refl), ((numerals_write (codes "32") refl), tt)) refl), tt)) refl), tt)))) refl)) refl refl in
    let x22 = goes _ (codes "(define-fun t10 () Bool (= t9 (_ bv10 32)))\n") _ _ _ x21 (commands_are_lines (codes "(define-fun t10 () Bool (= t9 (_ bv10 32)))") (DefineFun (codes "t10") (name (codes "Bool")) (group ((name (codes "=")) ∷ (name (codes "t9")) ∷ (group ((name (codes "_")) ∷ (name (codes "bv10")) ∷ (Leaf (Number 32)) ∷ [])) ∷ []))) (groups_write (codes "define-fun") (name (codes "define-fun")) (part (codes "t10") (name (codes "t10")) ∷ part (codes "()") (group ([])) ∷ part (codes "Bool") (name (codes "Bool")) ∷ part (codes "(= t9 (_ bv10 32))") (group ((name (codes "=")) ∷ (name (codes "t9")) ∷ (group ((name (codes "_")) ∷ (name (codes "bv10")) ∷ (Leaf (Number 32)) ∷ [])) ∷ [])) ∷ []) [] (names_write (codes "define-fun") refl) ((names_write (codes "t10") refl), ((brackets_write [] [] tt refl), ((names_write (codes "Bool") refl), ((groups_write (codes "=") (name (codes "=")) (part (codes "t9") (name (codes "t9")) ∷ part (codes "(_ bv10 32)") (group ((name (codes "_")) ∷ (name (codes "bv10")) ∷ (Leaf (Number 32)) ∷ [])) ∷ []) [] (names_write (codes "=") refl) ((names_write (codes "t9") refl), ((groups_write (codes "_") (name (codes "_")) (part (codes "bv10") (name (codes "bv10")) ∷ part (codes "32") (Leaf (Number 32)) ∷ []) [] (names_write (codes "_") refl) ((names_write (codes "bv10") refl), ((numerals_write (codes "32") refl), tt)) refl), tt)) refl), tt)))) refl)) refl refl in
    let x23 = goes _ (codes "(define-fun t11 () Bool (and t7 t10))\n") _ _ _ x22 (commands_are_lines (codes "(define-fun t11 () Bool (and t7 t10))") (DefineFun (codes "t11") (name (codes "Bool")) (group ((name (codes "and")) ∷ (name (codes "t7")) ∷ (name (codes "t10")) ∷ []))) (groups_write (codes "define-fun") (name (codes "define-fun")) (part (codes "t11") (name (codes "t11")) ∷ part (codes "()") (group ([])) ∷ part (codes "Bool") (name (codes "Bool")) ∷ part (codes "(and t7 t10)") (group ((name (codes "and")) ∷ (name (codes "t7")) ∷ (name (codes "t10")) ∷ [])) ∷ []) [] (names_write (codes "define-fun") refl) ((names_write (codes "t11") refl), ((brackets_write [] [] tt refl), ((names_write (codes "Bool") refl), ((groups_write (codes "and") (name (codes "and")) (part (codes "t7") (name (codes "t7")) ∷ part (codes "t10") (name (codes "t10")) ∷ []) [] (names_write (codes "and") refl) ((names_write (codes "t7") refl), ((names_write (codes "t10") refl), tt)) refl), tt)))) refl)) refl refl in
    let x24 = goes _ (codes "(define-fun t12 () Datetime (R2_a1 t1))\n") _ _ _ x23 (commands_are_lines (codes "(define-fun t12 () Datetime (R2_a1 t1))") (DefineFun (codes "t12") (name (codes "Datetime")) (group ((name (codes "R2_a1")) ∷ (name (codes "t1")) ∷ []))) (groups_write (codes "define-fun") (name (codes "define-fun")) (part (codes "t12") (name (codes "t12")) ∷ part (codes "()") (group ([])) ∷ part (codes "Datetime") (name (codes "Datetime")) ∷ part (codes "(R2_a1 t1)") (group ((name (codes "R2_a1")) ∷ (name (codes "t1")) ∷ [])) ∷ []) [] (names_write (codes "define-fun") refl) ((names_write (codes "t12") refl), ((brackets_write [] [] tt refl), ((names_write (codes "Datetime") refl), ((groups_write (codes "R2_a1") (name (codes "R2_a1")) (part (codes "t1") (name (codes "t1")) ∷ []) [] (names_write (codes "R2_a1") refl) ((names_write (codes "t1") refl), tt) refl), tt)))) refl)) refl refl in
    let x25 = goes _ (codes "(define-fun t13 () (_ BitVec 64) (datetimeVal t12))\n") _ _ _ x24 (commands_are_lines (codes "(define-fun t13 () (_ BitVec 64) (datetimeVal t12))") (DefineFun (codes "t13") (group ((name (codes "_")) ∷ (name (codes "BitVec")) ∷ (Leaf (Number 64)) ∷ [])) (group ((name (codes "datetimeVal")) ∷ (name (codes "t12")) ∷ []))) (groups_write (codes "define-fun") (name (codes "define-fun")) (part (codes "t13") (name (codes "t13")) ∷ part (codes "()") (group ([])) ∷ part (codes "(_ BitVec 64)") (group ((name (codes "_")) ∷ (name (codes "BitVec")) ∷ (Leaf (Number 64)) ∷ [])) ∷ part (codes "(datetimeVal t12)") (group ((name (codes "datetimeVal")) ∷ (name (codes "t12")) ∷ [])) ∷ []) [] (names_write (codes "define-fun") refl) ((names_write (codes "t13") refl), ((brackets_write [] [] tt refl), ((groups_write (codes "_") (name (codes "_")) (part (codes "BitVec") (name (codes "BitVec")) ∷ part (codes "64") (Leaf (Number 64)) ∷ []) [] (names_write (codes "_") refl) ((names_write (codes "BitVec") refl), ((numerals_write (codes "64") refl), tt)) refl), ((groups_write (codes "datetimeVal") (name (codes "datetimeVal")) (part (codes "t12") (name (codes "t12")) ∷ []) [] (names_write (codes "datetimeVal") refl) ((names_write (codes "t12") refl), tt) refl), tt)))) refl)) refl refl in
    let x26 = goes _ (codes "(define-fun t14 () Bool (bvslt t13 (_ bv1728950400000 64)))\n") _ _ _ x25 (commands_are_lines (codes "(define-fun t14 () Bool (bvslt t13 (_ bv1728950400000 64)))") (DefineFun (codes "t14") (name (codes "Bool")) (group ((name (codes "bvslt")) ∷ (name (codes "t13")) ∷ (group ((name (codes "_")) ∷ (name (codes "bv1728950400000")) ∷ (Leaf (Number 64)) ∷ [])) ∷ []))) (groups_write (codes "define-fun") (name (codes "define-fun")) (part (codes "t14") (name (codes "t14")) ∷ part (codes "()") (group ([])) ∷ part (codes "Bool") (name (codes "Bool")) ∷ part (codes "(bvslt t13 (_ bv1728950400000 64))") (group ((name (codes "bvslt")) ∷ (name (codes "t13")) ∷ (group ((name (codes "_")) ∷ (name (codes "bv1728950400000")) ∷ (Leaf (Number 64)) ∷ [])) ∷ [])) ∷ []) [] (names_write (codes "define-fun") refl) ((names_write (codes "t14") refl), ((brackets_write [] [] tt refl), ((names_write (codes "Bool") refl), ((groups_write (codes "bvslt") (name (codes "bvslt")) (part (codes "t13") (name (codes "t13")) ∷ part (codes "(_ bv1728950400000 64)") (group ((name (codes "_")) ∷ (name (codes "bv1728950400000")) ∷ (Leaf (Number 64)) ∷ [])) ∷ []) [] (names_write (codes "bvslt") refl) ((names_write (codes "t13") refl), ((groups_write (codes "_") (name (codes "_")) (part (codes "bv1728950400000") (name (codes "bv1728950400000")) ∷ part (codes "64") (Leaf (Number 64)) ∷ []) [] (names_write (codes "_") refl) ((names_write (codes "bv1728950400000") refl), ((numerals_write (codes "64") refl), tt)) refl), tt)) refl), tt)))) refl)) refl refl in
    let x27 = goes _ (codes "(assert t3)\n") _ _ _ x26 (commands_are_lines (codes "(assert t3)") (Assert (name (codes "t3"))) (groups_write (codes "assert") (name (codes "assert")) (part (codes "t3") (name (codes "t3")) ∷ []) [] (names_write (codes "assert") refl) ((names_write (codes "t3") refl), tt) refl)) refl refl in
    let x28 = goes _ (codes "(assert t5)\n") _ _ _ x27 (commands_are_lines (codes "(assert t5)") (Assert (name (codes "t5"))) (groups_write (codes "assert") (name (codes "assert")) (part (codes "t5") (name (codes "t5")) ∷ []) [] (names_write (codes "assert") refl) ((names_write (codes "t5") refl), tt) refl)) refl refl in
    let x29 = goes _ (codes "(assert t11)\n") _ _ _ x28 (commands_are_lines (codes "(assert t11)") (Assert (name (codes "t11"))) (groups_write (codes "assert") (name (codes "assert")) (part (codes "t11") (name (codes "t11")) ∷ []) [] (names_write (codes "assert") refl) ((names_write (codes "t11") refl), tt) refl)) refl refl in
    let x30 = goes _ (codes "(assert t14)\n") _ _ _ x29 (commands_are_lines (codes "(assert t14)") (Assert (name (codes "t14"))) (groups_write (codes "assert") (name (codes "assert")) (part (codes "t14") (name (codes "t14")) ∷ []) [] (names_write (codes "assert") refl) ((names_write (codes "t14") refl), tt) refl)) refl refl in
    (_, x30.sorted, refl, refl)
