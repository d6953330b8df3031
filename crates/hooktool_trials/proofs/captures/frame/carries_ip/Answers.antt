use Rattle.std.proofs.Common.{subst, sym}
use Rattle.std.specs.Prelude.{◌↔◌, IsTrue}
use Rattle.hooktool_trials.proofs.captures.frame.carries_ip.Goals as goal
use Rattle.hooktool_trials.specs.Frames.{CarriesIp}
use Rattle.hooktool_trials.specs.declared.captures.frame.LinkType.{LinkType}

pub returns-in-Ethernet : goal.returns-in-Ethernet
returns-in-Ethernet c = subst
    (λ (link : LinkType). IsTrue c.names_ip.result ↔ CarriesIp link c.args.frame.now)
    (sym c.in-Ethernet.is) c.names_ip.ensures

pub returns-in-LinuxCooked : goal.returns-in-LinuxCooked
returns-in-LinuxCooked c = subst
    (λ (link : LinkType). IsTrue c.names_ip-in-LinuxCooked.result ↔ CarriesIp link c.args.frame.now)
    (sym c.in-LinuxCooked.is) c.names_ip-in-LinuxCooked.ensures

pub returns-in-LinuxCooked2 : goal.returns-in-LinuxCooked2
returns-in-LinuxCooked2 c = subst
    (λ (link : LinkType). IsTrue c.names_ip-in-LinuxCooked2.result
    ↔ CarriesIp link c.args.frame.now)
    (sym c.in-LinuxCooked2.is) c.names_ip-in-LinuxCooked2.ensures
