-- What is on disk before a job goes out, and before one that counts is answered (own profile).
use Rattle.std.specs.Prelude.{◌≡◌, ℕ, ◌+◌, List, Option, Some, string_bytes}
use Rattle.sha2.specs.Sha256.{sha256}
use Rattle.rje_accounts.specs.Noting.{IsNoted}
use Rattle.rje_accounts.specs.Paths.{settle_path}
use Rattle.rje_folder.specs.declared.folder.Folder.{Folder}
use Rattle.rje_folder.specs.Folder.{path_in}
use Rattle.rje_folder.specs.Moving.{IsSecond}
use Rattle.rje_settle.specs.declared.job_digest.JobDigest.{JobDigest}
use Rattle.rje_settle.specs.declared.job_place.JobPlace.{JobPlace}
use Rattle.rje_settle.specs.declared.promise.Promise.{Promise}
use Rattle.rje_settle.specs.declared.receipt.Receipt.{Receipt}
use Rattle.rje_settle.specs.declared.settle_name.SettleName.{SettleName}
use Rattle.rje_settle.specs.Receipt.{counted_with}
use Rattle.rje_settle.specs.Sending.{Sending, all_said_of, promised_with}
use Rattle.rje_spool.specs.Backed.{GoesOn}
use Rattle.rje_spool.specs.GivenFiles.{file_of, is_last_of, mark_of}
use Rattle.rje_spool.specs.declared.given_file.GivenFile.{GivenFile}
use Rattle.rje_store.specs.Disk.{Asked}
use Rattle.rje_store.specs.Replacing.{IsOnDisk}

-- a job that goes out: the name of its file in out/, the digest of the job, and which job of the file it is
pub record OutJob : Type 0 where
  pub name : List ℕ
  pub digest : List ℕ
  pub place : JobPlace

-- its promise, after all that was said before
abbrev pub promise_of : Receipt → OutJob → Promise
promise_of all job = record { receipt = counted_with all job.digest; place = job.place }

-- The job is promised: it is the one after all that were promised before, and its file has a second name in settle/, on disk, which says so.
abbrev pub IsPromised : (station : List ℕ) → OutJob → (account account' : Sending) → (before after : List Asked) → Type 0
IsPromised station job account account' before after =
    (all : Receipt) × (all_said_of account ≡ Some all) × (account' ≡ promised_with account (promise_of all job))
    × IsSecond (path_in station Folder.Out job.name) (settle_path station (SettleName.Out (promise_of all job))) before after

-- A job of a transmission that goes out: it is the job of this place of the files that the transmission was given, and this is its digest, which was made
-- of it.
pub record IsOut (job : ℕ) (made : Option (ℕ × JobDigest)) (files : List GivenFile) (out : OutJob) : Type 0 where
  pub file : GivenFile
  pub digest : JobDigest
  pub of_file : file_of job files ≡ Some file
  pub is_made : made ≡ Some (job, digest)
  pub name : out.name ≡ string_bytes file.name
  pub digest_is : out.digest ≡ digest.bytes
  pub mark : out.place.mark ≡ mark_of job file
  pub last : out.place.is_last ≡ is_last_of job file

-- The job of this job file is counted: at one moment after what was asked before it was on disk, under the number after those that were kept, and the
-- count with it was noted there.
abbrev pub IsCounted : (station : List ℕ) → (kept : Receipt) → (bytes : List ℕ) → (before after : List Asked) → Type 0
IsCounted station kept bytes before after =
    (moment : List Asked) × GoesOn before moment × GoesOn moment after
    × IsOnDisk (settle_path station (SettleName.Come (kept.kept + 1))) bytes moment
    × IsNoted (settle_path station (SettleName.Kept (counted_with kept (sha256 bytes)))) moment
