-- Router 7, without a neighbor, and LSAs in its name that other routers sent at moment 20.
use Rattle.std.specs.Prelude.{pos, [], ◌∷◌, None, Some}
use Rattle.std.specs.FinMap as finite
use Rattle.std.specs.FinSet as set
use Rattle.words.specs.Numbers.{Moment}
use Rattle.words.specs.declared.key.Key.{Key}
use Rattle.words.specs.declared.route.External.{External}
use Rattle.words.specs.declared.route.ExternalType.TheVariants.{Type1}
use Rattle.lsa.specs.declared.body.LsaBody.{LsaBody}
use Rattle.lsa.specs.declared.body.LsaBody.TheVariants as body
use Rattle.lsa.specs.declared.body.LinkKind.TheVariants.{Stub}
use Rattle.lsdb.specs.Headers.{Lsa}
use Rattle.event_rules.specs.Originations.{external_body, flush, router_key}
use Rattle.event_rules.specs.Routers.{Router, with_links}
use Rattle.own_lsa_laws.specs.OwnCopies.{SpeaksForItself, SpeaksForItselfAfterTick}

-- ---- LSAs that router 7 never originated

abbrev pub lsa_under : Key → LsaBody → Lsa
lsa_under key contents = record {
  header = record {
    age = 1;
    options = 2;
    ls_type = key.ls_type;
    link_state_id = key.link_state_id;
    advertising_router = key.advertising_router;
    sequence = pos 9;
    checksum = 4660;
    length = 36;
  };
  body = contents;
}

-- it announces 192.0.2.0/24
abbrev pub destination : External
destination = record {
  prefix = record { address = 0xc0000200; length = 24 };
  kind = Type1;
  metric = 1;
  tag = 0;
}

abbrev pub unwanted_key : Key
unwanted_key = record { ls_type = 5; link_state_id = 0xc0000200; advertising_router = 7 }

abbrev pub unwanted : Lsa
unwanted = lsa_under unwanted_key (external_body destination)

-- its router-LSA, with a stub link to 192.0.2.0/24
abbrev pub other_links : Lsa
other_links = lsa_under (router_key 7) (body.Router (record {
  flags = 2;
  links = record {
    link_id = 0xc0000200;
    link_data = 0xffffff00;
    kind = Stub;
    metric = 1;
    tos = [];
  } ∷ [];
}))

-- ---- routers whose database has only one of them

abbrev pub holding : Key → Lsa → Router
holding key lsa = record (with_links 7 [] 20) {
  area = record {
    links = [];
    database =
        finite.insert finite.empty key
        (record { lsa = lsa; stored = 20; received = Some 20; sent = None });
  };
}

-- its router-LSA, which it last originated at moment 20, waits for a Tick
abbrev pub waiting_at : Moment → Router
waiting_at moment = record (holding (router_key 7) other_links) {
  waiting = set.insert set.empty (router_key 7);
  originated = finite.insert finite.empty (router_key 7) 20;
  moment = moment;
}

pub record WorkedOwnCopies : Type 0 where
  -- a router that keeps an unwanted LSA doesn't speak for itself; one that flushes it does
  pub left_alone : SpeaksForItself (holding unwanted_key unwanted) → ⊥
  pub flushed : SpeaksForItself (flush 20 unwanted_key (record {
    router = holding unwanted_key unwanted;
    sends = [];
  })).router
  -- nor does one with a router-LSA with other links, unless that waits to be replaced
  pub not_waiting : SpeaksForItself (holding (router_key 7) other_links) → ⊥
  pub waiting : SpeaksForItself (waiting_at 20)
  -- after Ticks 4 and 5 seconds later
  pub in_time : SpeaksForItselfAfterTick (waiting_at 24)
  pub too_late : SpeaksForItselfAfterTick (waiting_at 25) → ⊥
