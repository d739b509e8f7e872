-- Which names a circuit's module may have: each simple identifier (IEEE 1364-2005, 3.7) of at most 255 bytes that is no reserved word. The
-- words are those of IEEE 1800-2017 (annex B), so that the text is a module of that language too; `law_reserved` says that they have all of
-- IEEE 1364-2005. A name that the module itself declares is taken: names of modules are apart from those (IEEE 1364-2005, 4.11).
use Rattle.std.specs.Prelude.{◌≡◌, ℕ, Bool, true, false, not, ◌&&◌, ◌||◌, List, [], ◌∷◌, length, nat_eq, nat_le, codes}
use Rattle.std.specs.Str.{bytes_eq}
use Prim.Native.String.{String}
use Rattle.verilog_tree.specs.WellFormed.{letter, member, keywords}

-- a byte of a name: a letter, _, a digit or $
abbrev pub name_byte : ℕ → Bool
name_byte c = letter c || ((nat_le 48 c && nat_le c 57) || nat_eq c 36)

-- so are these
abbrev pub name_bytes : List ℕ → Bool
name_bytes [] = true
name_bytes (c ∷ cs) = name_byte c && name_bytes cs

-- the first is a letter or _
abbrev pub is_simple : List ℕ → Bool
is_simple [] = false
is_simple (c ∷ cs) = letter c && name_bytes cs

-- a word is one of these
abbrev pub is_one_of : List ℕ → List (List ℕ) → Bool
is_one_of cs [] = false
is_one_of cs (w ∷ ws) = bytes_eq w cs || is_one_of cs ws

-- the reserved words
unfoldable pub reserved : List (List ℕ)
reserved =
    codes "accept_on" ∷ codes "alias" ∷ codes "always" ∷ codes "always_comb" ∷ codes "always_ff" ∷ codes "always_latch" ∷ codes "and" ∷
    codes "assert" ∷ codes "assign" ∷ codes "assume" ∷ codes "automatic" ∷ codes "before" ∷ codes "begin" ∷ codes "bind" ∷ codes "bins" ∷
    codes "binsof" ∷ codes "bit" ∷ codes "break" ∷ codes "buf" ∷ codes "bufif0" ∷ codes "bufif1" ∷ codes "byte" ∷ codes "case" ∷
    codes "casex" ∷ codes "casez" ∷ codes "cell" ∷ codes "chandle" ∷ codes "checker" ∷ codes "class" ∷ codes "clocking" ∷ codes "cmos" ∷
    codes "config" ∷ codes "const" ∷ codes "constraint" ∷ codes "context" ∷ codes "continue" ∷ codes "cover" ∷ codes "covergroup" ∷
    codes "coverpoint" ∷ codes "cross" ∷ codes "deassign" ∷ codes "default" ∷ codes "defparam" ∷ codes "design" ∷ codes "disable" ∷
    codes "dist" ∷ codes "do" ∷ codes "edge" ∷ codes "else" ∷ codes "end" ∷ codes "endcase" ∷ codes "endchecker" ∷ codes "endclass" ∷
    codes "endclocking" ∷ codes "endconfig" ∷ codes "endfunction" ∷ codes "endgenerate" ∷ codes "endgroup" ∷ codes "endinterface" ∷
    codes "endmodule" ∷ codes "endpackage" ∷ codes "endprimitive" ∷ codes "endprogram" ∷ codes "endproperty" ∷ codes "endsequence" ∷
    codes "endspecify" ∷ codes "endtable" ∷ codes "endtask" ∷ codes "enum" ∷ codes "event" ∷ codes "eventually" ∷ codes "expect" ∷
    codes "export" ∷ codes "extends" ∷ codes "extern" ∷ codes "final" ∷ codes "first_match" ∷ codes "for" ∷ codes "force" ∷
    codes "foreach" ∷ codes "forever" ∷ codes "fork" ∷ codes "forkjoin" ∷ codes "function" ∷ codes "generate" ∷ codes "genvar" ∷
    codes "global" ∷ codes "highz0" ∷ codes "highz1" ∷ codes "if" ∷ codes "iff" ∷ codes "ifnone" ∷ codes "ignore_bins" ∷
    codes "illegal_bins" ∷ codes "implements" ∷ codes "implies" ∷ codes "import" ∷ codes "incdir" ∷ codes "include" ∷ codes "initial" ∷
    codes "inout" ∷ codes "input" ∷ codes "inside" ∷ codes "instance" ∷ codes "int" ∷ codes "integer" ∷ codes "interconnect" ∷
    codes "interface" ∷ codes "intersect" ∷ codes "join" ∷ codes "join_any" ∷ codes "join_none" ∷ codes "large" ∷ codes "let" ∷
    codes "liblist" ∷ codes "library" ∷ codes "local" ∷ codes "localparam" ∷ codes "logic" ∷ codes "longint" ∷ codes "macromodule" ∷
    codes "matches" ∷ codes "medium" ∷ codes "modport" ∷ codes "module" ∷ codes "nand" ∷ codes "negedge" ∷ codes "nettype" ∷
    codes "new" ∷ codes "nexttime" ∷ codes "nmos" ∷ codes "nor" ∷ codes "noshowcancelled" ∷ codes "not" ∷ codes "notif0" ∷
    codes "notif1" ∷ codes "null" ∷ codes "or" ∷ codes "output" ∷ codes "package" ∷ codes "packed" ∷ codes "parameter" ∷ codes "pmos" ∷
    codes "posedge" ∷ codes "primitive" ∷ codes "priority" ∷ codes "program" ∷ codes "property" ∷ codes "protected" ∷ codes "pull0" ∷
    codes "pull1" ∷ codes "pulldown" ∷ codes "pullup" ∷ codes "pulsestyle_ondetect" ∷ codes "pulsestyle_onevent" ∷ codes "pure" ∷
    codes "rand" ∷ codes "randc" ∷ codes "randcase" ∷ codes "randsequence" ∷ codes "rcmos" ∷ codes "real" ∷ codes "realtime" ∷
    codes "ref" ∷ codes "reg" ∷ codes "reject_on" ∷ codes "release" ∷ codes "repeat" ∷ codes "restrict" ∷ codes "return" ∷
    codes "rnmos" ∷ codes "rpmos" ∷ codes "rtran" ∷ codes "rtranif0" ∷ codes "rtranif1" ∷ codes "s_always" ∷ codes "s_eventually" ∷
    codes "s_nexttime" ∷ codes "s_until" ∷ codes "s_until_with" ∷ codes "scalared" ∷ codes "sequence" ∷ codes "shortint" ∷
    codes "shortreal" ∷ codes "showcancelled" ∷ codes "signed" ∷ codes "small" ∷ codes "soft" ∷ codes "solve" ∷ codes "specify" ∷
    codes "specparam" ∷ codes "static" ∷ codes "string" ∷ codes "strong" ∷ codes "strong0" ∷ codes "strong1" ∷ codes "struct" ∷
    codes "super" ∷ codes "supply0" ∷ codes "supply1" ∷ codes "sync_accept_on" ∷ codes "sync_reject_on" ∷ codes "table" ∷
    codes "tagged" ∷ codes "task" ∷ codes "this" ∷ codes "throughout" ∷ codes "time" ∷ codes "timeprecision" ∷ codes "timeunit" ∷
    codes "tran" ∷ codes "tranif0" ∷ codes "tranif1" ∷ codes "tri" ∷ codes "tri0" ∷ codes "tri1" ∷ codes "triand" ∷ codes "trior" ∷
    codes "trireg" ∷ codes "type" ∷ codes "typedef" ∷ codes "union" ∷ codes "unique" ∷ codes "unique0" ∷ codes "unsigned" ∷
    codes "until" ∷ codes "until_with" ∷ codes "untyped" ∷ codes "use" ∷ codes "uwire" ∷ codes "var" ∷ codes "vectored" ∷
    codes "virtual" ∷ codes "void" ∷ codes "wait" ∷ codes "wait_order" ∷ codes "wand" ∷ codes "weak" ∷ codes "weak0" ∷ codes "weak1" ∷
    codes "while" ∷ codes "wildcard" ∷ codes "wire" ∷ codes "with" ∷ codes "within" ∷ codes "wor" ∷ codes "xnor" ∷ codes "xor" ∷ []

-- the name may be a module's
abbrev pub module_name : List ℕ → Bool
module_name cs = is_simple cs && (nat_le (length cs) 255 && not (is_one_of cs reserved))

-- the reserved words have those of IEEE 1364-2005, which no name in a tree is
abbrev pub ReservedHasKeywords : Type 0
ReservedHasKeywords = (x : String) → member x keywords ≡ true → is_one_of (codes x) reserved ≡ true
