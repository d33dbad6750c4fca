-- What a port over a wire tells of its turns.
use Rattle.std.specs.Prelude.{Option, option_map}
use Rattle.ntp_port.specs.Port.{Told}
use Rattle.ntp_host.specs.Wire.{port_told}
use Rattle.ntp_host.specs.declared.system_wire.Wire as wire
use Rattle.ntp_host.specs.declared.udp_port.UdpPort.{UdpPort}

-- what the wire tells, as the port gives it
abbrev pub told_by : {W : Type 0} {wire : wire.Ghosts W} → UdpPort W wire → Option Told
told_by {wire = w} udp = option_map (port_told udp.shown udp.has_tried_send) (w.turns udp.wire)
