use Rattle.program_laws.proofs.Announcements.{other_announcements}
use Rattle.program_laws.proofs.routers.other_announcements_stay_the_same.Goals as goal

pub returns : goal.returns
returns c = other_announcements
