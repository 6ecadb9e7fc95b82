-- The texts of matches and flows. The words of fields and actions are those of ovs-fields(7) and
-- ovs-actions(7) where Open vSwitch has them, and this project's own elsewhere.
use Rattle.std.specs.Prelude.{ℕ, Bool, true, false, List, [], ◌∷◌, ◌++◌, ◌==◌, Option, Some, None, map, codes, if◌then◌else◌}
use Rattle.std.specs.List.{join_with_byte}
use Rattle.std.specs.Fmt.{decimal, digits}
use Rattle.std.specs.Option.{option_map}
use Rattle.cl_types.specs.declared.addr.Addr.{Addr}
use Rattle.cl_types.specs.declared.addr.Addr.TheVariants.{V4, V6}
use Rattle.cl_types.specs.declared.service.Masked.{Masked}
use Rattle.cl_types.specs.declared.service.Proto.{Proto}
use Rattle.cl_types.specs.declared.service.Proto.TheVariants.{Tcp, Udp, Sctp, Icmp}
use Rattle.cl_types.specs.declared.verdict.Action.{Action}
use Rattle.cl_types.specs.declared.verdict.Action.TheVariants as action
use Rattle.cl_types.specs.Addr.{width_of}
use Rattle.cl_types.specs.Prefix.{PrefixData}
use Rattle.cl_types.specs.Written.{address_text, prefix_text, rule_text}
use Rattle.flow_entries.specs.declared.flow.Clause.{Clause}
use Rattle.flow_entries.specs.declared.flow.Does.{Does}
use Rattle.flow_entries.specs.declared.flow.Does.TheVariants as does
use Rattle.flow_entries.specs.declared.flow.Flow.{Flow}
use Rattle.flow_entries.specs.declared.writing.Field.{Field}
use Rattle.flow_entries.specs.declared.writing.Field.TheVariants as field
use Rattle.flow_entries.specs.Matching.{MatchFields}
use Rattle.flow_entries.specs.Table.{table_text}

-- `A,B`
abbrev pub joined : List (List ℕ) → List ℕ
joined parts = join_with_byte 44 parts

-- a comma, where something stands before
abbrev pub separator : Bool → List ℕ
separator begun = if begun then codes "," else []

-- the parts joined by commas, where some may stand before them
abbrev pub continued : Bool → List (List ℕ) → List ℕ
continued begun [] = []
continued begun (part ∷ parts) = separator begun ++ (part ++ continued true parts)

-- the parts that are given
abbrev pub given : {T : Type 0} → List (Option T) → List T
given [] = []
given (None ∷ parts) = given parts
given (Some part ∷ parts) = part ∷ given parts

-- ---- matches

-- `nw_src=` of IPv4, `ipv6_src=` of IPv6
abbrev pub source_word : Addr → List ℕ
source_word (V4 n) = codes "nw_src="
source_word (V6 n) = codes "ipv6_src="

-- `nw_dst=` of IPv4, `ipv6_dst=` of IPv6
abbrev pub destination_word : Addr → List ℕ
destination_word (V4 n) = codes "nw_dst="
destination_word (V6 n) = codes "ipv6_dst="

-- the address where the block has one alone, else the prefix
abbrev pub block_text : PrefixData → List ℕ
block_text b = if b.len == width_of b.base then address_text b.base else prefix_text b

abbrev pub protocol_text : Proto → List ℕ
protocol_text Tcp = codes "tcp"
protocol_text Udp = codes "udp"
protocol_text Sctp = codes "sctp"
protocol_text Icmp = codes "icmp"

-- `/0xfff8`; nothing where all bits count
abbrev pub mask_text : ℕ → List ℕ
mask_text mask = if mask == 0xffff then [] else (codes "/0x" ++ digits 16 false mask)

-- the word, where it is asked for
abbrev pub flag_text : List ℕ → Bool → Option (List ℕ)
flag_text word asked = if asked then Some word else None

-- `in_port=3`
abbrev pub in_port_text : ℕ → List ℕ
in_port_text port = codes "in_port=" ++ decimal port

-- `conj_id=1`
abbrev pub conj_text : ℕ → List ℕ
conj_text id = codes "conj_id=" ++ decimal id

-- `nw_src=10.10.1.0/24`
abbrev pub source_text : PrefixData → List ℕ
source_text b = source_word b.base ++ block_text b

-- `nw_dst=10.10.1.5`
abbrev pub destination_text : PrefixData → List ℕ
destination_text b = destination_word b.base ++ block_text b

-- `tun_dst=172.16.0.9`
abbrev pub tunnel_text : Addr → List ℕ
tunnel_text a = codes "tun_dst=" ++ address_text a

-- `tp_dst=1000/0xfff8`
abbrev pub port_text : Masked → List ℕ
port_text port = codes "tp_dst=" ++ (decimal port.value ++ mask_text port.mask)

-- each field's text, where the field is given
abbrev pub optional_texts : MatchFields → List (Option (List ℕ))
optional_texts m =
    option_map in_port_text m.in_port
    ∷ flag_text (codes "known") m.known
    ∷ flag_text (codes "skip") m.skip
    ∷ option_map conj_text m.conj
    ∷ option_map source_text m.src
    ∷ option_map destination_text m.dst
    ∷ option_map tunnel_text m.tunnel
    ∷ option_map protocol_text m.proto
    ∷ option_map port_text m.dport
    ∷ []

-- the texts of the given fields
abbrev pub field_texts : MatchFields → List (List ℕ)
field_texts m = given (optional_texts m)

-- a field as it is written
abbrev pub field_text : Field → List ℕ
field_text (field.InPort port) = in_port_text port
field_text field.Known = codes "known"
field_text field.Skip = codes "skip"
field_text (field.Conj id) = conj_text id
field_text (field.Source block) = source_text block
field_text (field.Destination block) = destination_text block
field_text (field.Tunnel a) = tunnel_text a
field_text (field.Protocol proto) = protocol_text proto
field_text (field.Port port) = port_text port

-- `in_port=3,nw_src=10.10.1.5`
unfoldable pub match_text : MatchFields → List ℕ
match_text m = joined (field_texts m)

-- ---- flows

-- `conjunction(1,2/3)`
abbrev pub clause_text : Clause → List ℕ
clause_text c = codes "conjunction(" ++ (decimal c.id ++ (codes "," ++ (decimal c.k ++ codes "/3)")))

abbrev pub verdict_text : Action → List ℕ
verdict_text action.Allow = codes "allow"
verdict_text action.Drop = codes "drop"
verdict_text action.Reject = codes "reject"
verdict_text action.Pass = codes "pass"

abbrev pub action_text : Does → List ℕ
action_text does.Next = codes "next"
action_text (does.Goto table) = codes "goto(" ++ (table_text table ++ codes ")")
action_text does.Skip = codes "skip"
action_text (does.Port port) = codes "port(" ++ (decimal port ++ codes ")")
action_text (does.Tunnel node) = codes "tunnel(" ++ (node ++ codes ")")
action_text does.Leave = codes "leave"
action_text (does.Mark mark address) = codes "mark(" ++ (decimal mark ++ codes ")")
action_text (does.Remote node address) = codes "remote(" ++ (node ++ (codes "," ++ (address_text address ++ codes ")")))
action_text does.Spoof = codes "spoof"
action_text does.NoPort = codes "noport"
action_text does.Isolate = codes "isolate"
action_text (does.Clauses clauses) = joined (map clause_text clauses)
action_text (does.Verdict action rule) = verdict_text action
action_text does.Output = codes "output"

-- `table=SNAT,priority=210,in_port=1,tun_dst=172.16.0.9`: each field after a comma
abbrev pub matched_text : Flow → List ℕ
matched_text f =
    codes "table=" ++ (table_text f.table ++ (codes ",priority=" ++ (decimal f.priority ++ continued true (field_texts f.fields))))

-- `table=SNAT,priority=210,in_port=1,tun_dst=172.16.0.9 actions=mark(1)`
abbrev pub flow_text : Flow → List ℕ
flow_text f = matched_text f ++ (codes " actions=" ++ action_text f.does)

-- What a trace says of a flow that is hit, so that it depends on no id, number or mark: `mark(172.16.0.9)`,
-- `drop acnp:stop ingress[0]`, and every other action's text.
abbrev pub label_text : Does → List ℕ
label_text (does.Mark mark address) = codes "mark(" ++ (address_text address ++ codes ")")
label_text (does.Verdict action rule) = verdict_text action ++ (codes " " ++ rule_text rule)
label_text other = action_text other
