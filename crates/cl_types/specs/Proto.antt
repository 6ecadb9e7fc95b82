-- Protocols.
use Rattle.std.specs.Prelude.{Bool, true, false}
use Rattle.cl_types.specs.declared.service.Proto.{Proto}
use Rattle.cl_types.specs.declared.service.Proto.TheVariants.{Tcp, Udp, Sctp, Icmp}

abbrev pub proto_eq : Proto → Proto → Bool
proto_eq Tcp Tcp = true
proto_eq Udp Udp = true
proto_eq Sctp Sctp = true
proto_eq Icmp Icmp = true
proto_eq _ _ = false
