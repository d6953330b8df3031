-- What is said at the console, put together.
use Rattle.std.proofs.Common.{◌≡◌, ◌⊎◌, inl, inr, ℕ, true, false, List, [], ◌∷◌, Option, None, Some}
use Rattle.std.proofs.Common.{Result, Ok, Err, refl, subst}
use Rattle.operator.specs.Answers.{Sources}
use Rattle.operator.specs.Texts.{reply_text}
use Rattle.operator.specs.declared.reply.Reply.{Reply}
use Rattle.operator.specs.declared.reply.Reply.TheVariants as reply
use Rattle.daemon.specs.Lines.{Fails, Gives, IsGiven}
use Rattle.daemon.specs.Talks.{HasAnswered, HasTalked, IsOver, IsReplied, IsReply, Place}
use Rattle.daemon.specs.Talks.{is_output_failed, reply_of}
use Rattle.daemon.specs.Texts.{HasFailed, Takes, TakesEach}
use Rattle.daemon.specs.declared.lines.Given.{Given}
use Rattle.daemon.specs.declared.lines.Given.TheVariants as given
use Rattle.daemon.specs.declared.talk.ConsoleEnd.{ConsoleEnd}
use Rattle.daemon.specs.declared.talk.ConsoleEnd.TheVariants.{Done, InputFailed, OutputFailed}

-- what was found is what was given
pub replied : {Input : Type 0} (gives : Gives Input) (fails : Fails Input) (s : Sources)
    (interfaces : ℕ) (before : Place Input) (reply : Result Reply ConsoleEnd) (after : Place Input)
    (gave found : Given) → gave ≡ found → IsGiven gives fails before.input gave after.input
    → IsReply s interfaces found before reply after
    → IsReplied gives fails s interfaces before reply after
replied gives fails s interfaces before reply after gave found is given replies = record {
  gave = found;
  is_given = subst (λ g. IsGiven gives fails before.input g after.input) is given;
  is_reply = replies;
}

-- ---- line by line

-- these were answered up to now, and the output took their texts
pub record Talking {Input Output : Type 0} (gives : Gives Input) (fails : Fails Input)
    (takes : Takes Output) (s : Sources) (interfaces : ℕ) (start : Place Input) (old : Output)
    (now : Place Input) (new : Output) : Type 0 where
  pub answers : List Reply
  pub answered : HasAnswered gives fails s interfaces start answers now
  pub taken : TakesEach takes old answers new

pub not_talked : {Input Output : Type 0} (gives : Gives Input) (fails : Fails Input)
    (takes : Takes Output) (s : Sources) (interfaces : ℕ) (start : Place Input) (old : Output)
    → Talking gives fails takes s interfaces start old start old
not_talked gives fails takes s interfaces start old = record {
  answers = [];
  answered = refl;
  taken = refl;
}

pub talked_on : {Input Output : Type 0} (gives : Gives Input) (fails : Fails Input)
    (takes : Takes Output) (s : Sources) (interfaces many : ℕ) (start : Place Input) (old : Output)
    (between : Place Input) (printed : Output) (answer : Reply) (now : Place Input) (new : Output)
    → Talking gives fails takes s interfaces start old between printed → many ≡ interfaces
    → IsReplied gives fails s many between (Ok answer) now
    → takes printed (reply_text answer) new
    → Talking gives fails takes s interfaces start old now new
talked_on gives fails takes s interfaces many start old between printed answer now new so same
    replies took = record {
      answers = answer ∷ so.answers;
      answered = (
        between,
        so.answered,
        subst (λ n. IsReplied gives fails s n between (Ok answer) now) same replies,
      );
      taken = (printed, so.taken, took);
    }

pub talked : {Input Output : Type 0} (gives : Gives Input) (fails : Fails Input)
    (takes : Takes Output) (unwritable : Fails Output) (s : Sources) (interfaces many : ℕ)
    (start : Place Input) (old : Output) (between : Place Input) (printed : Output)
    (console_end : ConsoleEnd) (now : Place Input) (new : Output)
    → Talking gives fails takes s interfaces start old between printed → many ≡ interfaces
    → IsOver gives fails unwritable s many between printed console_end now new
    → HasTalked gives fails takes unwritable s interfaces start old console_end now new
talked gives fails takes unwritable s interfaces many start old between printed console_end now new
    so
    same over = record {
      answers = so.answers;
      between = between;
      printed = printed;
      answered = so.answered;
      taken = so.taken;
      over = subst (λ n. IsOver gives fails unwritable s n between printed console_end now new) same
          over;
    }

-- ---- the end

pub over_unread : {Input Output : Type 0} (gives : Gives Input) (fails : Fails Input)
    (unwritable : Fails Output) (s : Sources) (interfaces : ℕ) (before : Place Input) (old : Output)
    (console_end : ConsoleEnd) (after : Place Input) (new : Output)
    (reply : Result Reply ConsoleEnd) → reply ≡ Err console_end
    → IsReplied gives fails s interfaces before reply after → new ≡ old
    → IsOver gives fails unwritable s interfaces before old console_end after new
over_unread gives fails unwritable s interfaces before old console_end after new reply is replies
    same =
    record {
      how = inl (subst (λ r. IsReplied gives fails s interfaces before r after) is replies, same);
    }

-- the answer was to be printed when the output was as it was before it
pub over_unprinted : {Input Output : Type 0} (gives : Gives Input) (fails : Fails Input)
    (unwritable : Fails Output) (s : Sources) (interfaces : ℕ) (before : Place Input)
    (old printed : Output) (after : Place Input) (new : Output) (answer : Reply)
    (reply : Result Reply ConsoleEnd) → reply ≡ Ok answer
    → IsReplied gives fails s interfaces before reply after → printed ≡ old
    → unwritable printed new → IsOver gives fails unwritable s interfaces before old
    OutputFailed after new
over_unprinted gives fails unwritable s interfaces before old printed after new answer reply is
    replies same failed = record {
      how = inr (
        refl,
        subst (λ o. unwritable o new) same failed,
        (
          answer,
          subst (λ r. IsReplied gives fails s interfaces before r after) is
              replies,
        ),
      );
    }

-- no reply makes the output fail
is_no_reply : (answer : Option Reply) → Err OutputFailed ≡ reply_of answer → ⊥
is_no_reply None is = let e : Err OutputFailed ≡ Err Done = is in cc
is_no_reply (Some answer) is = let e : Err OutputFailed ≡ Ok answer = is in cc

never_output_failed : {Input : Type 0} (s : Sources) (interfaces : ℕ) (gave : Given)
    (before after : Place Input) → IsReply s interfaces gave before (Err OutputFailed) after → ⊥
never_output_failed s interfaces (given.Line line) before after is = is_no_reply is.0 is.2
never_output_failed s interfaces given.Memory before after is =
    let e : Err OutputFailed ≡ Ok reply.Memory = is.0 in cc
never_output_failed s interfaces given.End before after is = let e : Err OutputFailed ≡ Err Done =
    is.0 in cc
never_output_failed s interfaces given.Failed before after is =
    let e : Err OutputFailed ≡ Err InputFailed =
    is.0 in cc

over_output : {Input Output : Type 0} (gives : Gives Input) (fails : Fails Input)
    (unwritable : Fails Output) (s : Sources) (interfaces : ℕ) (before : Place Input) (old : Output)
    (after : Place Input) (new : Output)
    → ((IsReplied gives fails s interfaces before (Err OutputFailed) after × (new ≡ old))
    ⊎ ((OutputFailed ≡ OutputFailed) × unwritable old new
    × ((answer : Reply) × IsReplied gives fails s interfaces before (Ok answer) after)))
    → HasFailed unwritable
over_output gives fails unwritable s interfaces before old after new (inl replied) =
    absurd (never_output_failed s interfaces replied.0.gave before after replied.0.is_reply)
over_output gives fails unwritable s interfaces before old after new (inr unprinted) =
    (old, new, unprinted.1)

-- if the output failed, a write has failed
pub talked_output : {Input Output : Type 0} (gives : Gives Input) (fails : Fails Input)
    (takes : Takes Output) (unwritable : Fails Output) (s : Sources) (interfaces : ℕ)
    (start : Place Input) (old : Output) (console_end : ConsoleEnd) (now : Place Input)
    (new : Output) → HasTalked gives fails takes unwritable s interfaces start old
    console_end now new → is_output_failed console_end ≡ true → HasFailed unwritable
talked_output gives fails takes unwritable s interfaces start old Done now new so is =
    absurd (let e : false ≡ true = is in cc)
talked_output gives fails takes unwritable s interfaces start old InputFailed now new so is =
    absurd (let e : false ≡ true = is in cc)
talked_output gives fails takes unwritable s interfaces start old OutputFailed now new so is =
    over_output gives fails unwritable s interfaces so.between so.printed now new so.over.how
