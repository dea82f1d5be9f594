-- The numbers, names and messages of the errors.
use Rattle.std.specs.Prelude.{ℕ, List, ◌++◌, codes}
use Rattle.pathkey.specs.declared.errno.Errno.{Errno}
use Rattle.pathkey.specs.declared.errno.Errno.TheVariants.{ENOENT, ENOTDIR, EISDIR, EEXIST, ENOTEMPTY, EPERM, EINVAL, ENAMETOOLONG, EFBIG, EBUSY, ENOMEM, ENOSPC}

-- an error's number
abbrev pub number_of : Errno → ℕ
number_of ENOENT = 1
number_of ENOTDIR = 2
number_of EISDIR = 3
number_of EEXIST = 4
number_of ENOTEMPTY = 5
number_of EPERM = 6
number_of EINVAL = 7
number_of ENAMETOOLONG = 8
number_of EFBIG = 9
number_of EBUSY = 10
number_of ENOMEM = 11
number_of ENOSPC = 12

-- an error's name
abbrev pub word_of : Errno → List ℕ
word_of ENOENT = codes "ENOENT"
word_of ENOTDIR = codes "ENOTDIR"
word_of EISDIR = codes "EISDIR"
word_of EEXIST = codes "EEXIST"
word_of ENOTEMPTY = codes "ENOTEMPTY"
word_of EPERM = codes "EPERM"
word_of EINVAL = codes "EINVAL"
word_of ENAMETOOLONG = codes "ENAMETOOLONG"
word_of EFBIG = codes "EFBIG"
word_of EBUSY = codes "EBUSY"
word_of ENOMEM = codes "ENOMEM"
word_of ENOSPC = codes "ENOSPC"

-- an error's message
abbrev pub sentence_of : Errno → List ℕ
sentence_of ENOENT = codes "no such file or directory"
sentence_of ENOTDIR = codes "not a directory"
sentence_of EISDIR = codes "is a directory"
sentence_of EEXIST = codes "file exists"
sentence_of ENOTEMPTY = codes "directory not empty"
sentence_of EPERM = codes "operation not permitted"
sentence_of EINVAL = codes "invalid argument"
sentence_of ENAMETOOLONG = codes "name or path too long"
sentence_of EFBIG = codes "file too large"
sentence_of EBUSY = codes "the root cannot be moved or removed"
sentence_of ENOMEM = codes "out of memory"
sentence_of ENOSPC = codes "there are already 64 snapshots"

-- how an error is printed
abbrev pub shown : Errno → List ℕ
shown e = word_of e ++ codes ": " ++ sentence_of e
